use Rattle.stream_report.proofs.ReportLaws.{begins_whole}
use Rattle.watch_report.specs.Report.{watching}
use Rattle.watch_report.proofs.OneReport.{watching_once}
use Rattle.watch_report.proofs.laws.begins_whole.Goals as goal

pub returns : goal.returns
returns c = λ task. begins_whole (watching task) (watching_once task)
