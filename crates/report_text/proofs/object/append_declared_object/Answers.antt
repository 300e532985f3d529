use Rattle.std.proofs.Common.{arith}
use Rattle.std.proofs.lemmas.Grind.{common_steps}
use Rattle.report_text.proofs.ObjectTexts.{declared_object_is}
use Rattle.report_text.proofs.object.append_declared_object.Goals as goal

pub returns-clause-ok : goal.returns-clause-ok
returns-clause-ok c = rw (← declared_object_is c.args.line c.args.name.now)
    (grind (arith, common_steps))
