use Rattle.stream_report.proofs.ToldLaws.{one_told}
use Rattle.watch_report.specs.Report.{watches}
use Rattle.watch_report.proofs.OneReport.{watching_once}
use Rattle.watch_report.proofs.laws.one_told.Goals as goal

pub returns : goal.returns
returns c = λ task. one_told (watches task) (watching_once task).0
