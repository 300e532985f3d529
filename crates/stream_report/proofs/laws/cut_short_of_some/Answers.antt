use Rattle.stream_report.proofs.ReportLaws.{cut_short_of_some}
use Rattle.stream_report.proofs.laws.cut_short_of_some.Goals as goal

pub returns : goal.returns
returns g c = λ task total. cut_short_of_some (g.R.Reporter.manner task) total
