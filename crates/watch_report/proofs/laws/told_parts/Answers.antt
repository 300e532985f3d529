use Rattle.stream_report.proofs.ToldLaws.{told_parts}
use Rattle.watch_report.specs.Report.{watches}
use Rattle.watch_report.proofs.laws.told_parts.Goals as goal

pub returns : goal.returns
returns c = λ task. told_parts (watches task)
