use Rattle.stream_report.proofs.ReportLaws.{begins_all}
use Rattle.stream_report.proofs.laws.begins_all.Goals as goal

pub returns : goal.returns
returns g c = λ task single. begins_all (g.R.Reporter.manner task) single
