use Rattle.monitor_run.proofs.Leaving.{usage_leaves}
use Rattle.monitor_run.proofs.laws.usage_leaves.Goals as goal

pub returns : goal.returns
returns c = usage_leaves
