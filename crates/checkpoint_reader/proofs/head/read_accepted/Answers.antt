use Rattle.std.proofs.Common.{refl}
use Rattle.checkpoint_text.specs.Text.{accepted_line}
use Rattle.checkpoint_reader.specs.Lines.{names_for}
use Rattle.checkpoint_reader.specs.Rules.{AtAccepted, behind_accepted}
use Rattle.checkpoint_reader.proofs.Progressing.{next_reached}
use Rattle.checkpoint_reader.proofs.head.read_accepted.Goals as goal

pub returns-clause-ok : goal.returns-clause-ok
returns-clause-ok c =
    next_reached c.args.job.now (AtAccepted (names_for c.args.grows))
    (behind_accepted (names_for c.args.grows) c.in-Some.count) c.args.place c.in-Some.next
    (accepted_line c.in-Some.count) c.requires c.in-Some.ensures.0
    (c.in-Some.count, c.in-Some.ensures.1, refl, refl)
