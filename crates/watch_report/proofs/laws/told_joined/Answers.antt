use Rattle.stream_report.proofs.ToldLaws.{told_joined}
use Rattle.watch_report.specs.Report.{watches}
use Rattle.watch_report.proofs.laws.told_joined.Goals as goal

pub returns : goal.returns
returns c = λ task. told_joined (watches task)
