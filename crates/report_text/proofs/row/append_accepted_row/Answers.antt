use Rattle.std.proofs.Common.{arith}
use Rattle.std.proofs.lemmas.Grind.{common_steps}
use Rattle.report_text.proofs.RowTexts.{accepted_row_is}
use Rattle.report_text.proofs.row.append_accepted_row.Goals as goal

pub returns-clause-ok : goal.returns-clause-ok
returns-clause-ok c =
    rw (← accepted_row_is c.args.line c.args.number c.ranges.line.fits c.ranges.number.fits)
    (grind (arith, common_steps))
