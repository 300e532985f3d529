use Rattle.std.proofs.Common.{arith}
use Rattle.std.proofs.lemmas.Grind.{common_steps}
use Rattle.report_text.proofs.ObjectTexts.{end_object_is}
use Rattle.report_text.proofs.object.append_end_object.Goals as goal

pub returns-clause-ok : goal.returns-clause-ok
returns-clause-ok c = rw (← end_object_is c.args.accepted c.args.refused)
    (grind (arith, common_steps))
