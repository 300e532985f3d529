use Rattle.stream_report.proofs.ReportLaws.{one_report}
use Rattle.watch_report.specs.Report.{watching}
use Rattle.watch_report.proofs.OneReport.{watching_once}
use Rattle.watch_report.proofs.laws.one_report.Goals as goal

pub returns : goal.returns
returns c = λ task. one_report (watching task) (watching_once task)
