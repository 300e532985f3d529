use Rattle.monitor_run.proofs.Leaving.{drill_leaves}
use Rattle.monitor_run.proofs.laws.drill_leaves.Goals as goal

pub returns : goal.returns
returns c = drill_leaves
