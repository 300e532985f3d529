use Rattle.stream_report.proofs.ReportLaws.{one_part}
use Rattle.stream_report.proofs.laws.one_part.Goals as goal

pub returns : goal.returns
returns g c = λ task single. one_part (g.R.Reporter.manner task) single
