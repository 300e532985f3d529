use Rattle.stream_report.proofs.ReportLaws.{limit_is_exact}
use Rattle.watch_report.specs.Report.{watching}
use Rattle.watch_report.proofs.OneReport.{watching_once}
use Rattle.watch_report.proofs.laws.limit_is_exact.Goals as goal

pub returns : goal.returns
returns c = λ task. limit_is_exact (watching task) (watching_once task)
