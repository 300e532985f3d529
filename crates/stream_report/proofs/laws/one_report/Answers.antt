use Rattle.stream_report.proofs.ReportLaws.{one_report}
use Rattle.stream_report.proofs.laws.one_report.Goals as goal

pub returns : goal.returns
returns g c = λ task single. one_report (g.R.Reporter.manner task) single
