use Rattle.std.proofs.Common.{arith}
use Rattle.std.proofs.lemmas.Grind.{common_steps}
use Rattle.report_text.proofs.RowTexts.{end_row_is}
use Rattle.report_text.proofs.row.append_end_row.Goals as goal

pub returns-clause-ok : goal.returns-clause-ok
returns-clause-ok c =
    rw (← end_row_is c.args.accepted c.args.refused c.ranges.accepted.fits c.ranges.refused.fits)
    (grind (arith, common_steps))
