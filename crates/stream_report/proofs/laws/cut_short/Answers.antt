use Rattle.stream_report.proofs.ReportLaws.{cut_short}
use Rattle.stream_report.proofs.laws.cut_short.Goals as goal

pub returns : goal.returns
returns g c = λ task single. cut_short (g.R.Reporter.manner task) single
