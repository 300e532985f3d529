use Rattle.stream_report.proofs.ReportLaws.{limit_is_exact}
use Rattle.stream_report.proofs.laws.limit_is_exact.Goals as goal

pub returns : goal.returns
returns g c = λ task single. limit_is_exact (g.R.Reporter.manner task) single
