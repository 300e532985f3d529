use Rattle.stream_report.proofs.ReportLaws.{cut_short}
use Rattle.watch_report.specs.Report.{watching}
use Rattle.watch_report.proofs.OneReport.{watching_once}
use Rattle.watch_report.proofs.laws.cut_short.Goals as goal

pub returns : goal.returns
returns c = λ task. cut_short (watching task) (watching_once task)
