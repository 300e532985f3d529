-- Answers to the goals of `frozen_normal`: the frozen body is a snapshot.
use Rattle.std.proofs.Common.{map, sym, ◌∙◌, ap, subst}
use Rattle.dl_syntax.specs.Snapshots.{IsSnapshot}
use Rattle.models.specs.Containment.{frozen_atom}
use Rattle.contain_test.proofs.Distinct.{frozen_is_snapshot}
use Rattle.contain_test.proofs.frozen.frozen_normal.Goals as goal

pub new-requires-2 : goal.new-requires-2
new-requires-2 c =
    subst IsSnapshot
    (sym (c.in_ok-facts.ensures ∙ ap (map (frozen_atom c.args.count)) c.as_slice.ensures))
    (frozen_is_snapshot c.args.count c.args.query.now c.requires.distinct c.requires.below.1)
