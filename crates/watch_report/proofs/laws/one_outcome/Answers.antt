use Rattle.watch_report.proofs.ToldLaws.{one_outcome}
use Rattle.watch_report.proofs.laws.one_outcome.Goals as goal

pub returns : goal.returns
returns c = one_outcome
