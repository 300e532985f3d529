use Rattle.watch_report.proofs.OneReport.{one_drill}
use Rattle.watch_report.proofs.laws.one_drill.Goals as goal

pub returns : goal.returns
returns c = one_drill
