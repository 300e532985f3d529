use Rattle.std.proofs.Common.{arith}
use Rattle.std.proofs.lemmas.Grind.{common_steps}
use Rattle.report_text.proofs.RowTexts.{declared_row_is}
use Rattle.report_text.proofs.row.append_declared_row.Goals as goal

pub returns-clause-ok : goal.returns-clause-ok
returns-clause-ok c =
    rw (← declared_row_is c.args.line c.args.name.now c.ranges.line.fits c.requires)
    (grind (arith, common_steps))
