use Rattle.watch_report.proofs.Renumbering.{renumbered_line}
use Rattle.watch_report.proofs.laws.lines_renumber.Goals as goal

pub returns : goal.returns
returns c = renumbered_line
