use Rattle.watch_report.proofs.ToldLaws.{one_line}
use Rattle.watch_report.proofs.laws.one_line.Goals as goal

pub returns : goal.returns
returns c = one_line
