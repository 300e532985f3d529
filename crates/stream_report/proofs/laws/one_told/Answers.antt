use Rattle.stream_report.proofs.ToldLaws.{one_told}
use Rattle.stream_report.proofs.laws.one_told.Goals as goal

pub returns : goal.returns
returns g c = λ task single. one_told (g.R.Reporter.manner task).step single
