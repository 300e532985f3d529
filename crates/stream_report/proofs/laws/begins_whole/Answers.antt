use Rattle.stream_report.proofs.ReportLaws.{begins_whole}
use Rattle.stream_report.proofs.laws.begins_whole.Goals as goal

pub returns : goal.returns
returns g c = λ task single. begins_whole (g.R.Reporter.manner task) single
