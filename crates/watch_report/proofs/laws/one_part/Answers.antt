use Rattle.stream_report.proofs.ReportLaws.{one_part}
use Rattle.watch_report.specs.Report.{watching}
use Rattle.watch_report.proofs.OneReport.{watching_once}
use Rattle.watch_report.proofs.laws.one_part.Goals as goal

pub returns : goal.returns
returns c = λ task. one_part (watching task) (watching_once task)
