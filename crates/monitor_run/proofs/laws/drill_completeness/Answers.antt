use Rattle.monitor_run.proofs.Completing.{drill_completeness}
use Rattle.monitor_run.proofs.laws.drill_completeness.Goals as goal

pub returns : goal.returns
returns c = drill_completeness
