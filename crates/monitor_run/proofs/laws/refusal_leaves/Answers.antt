use Rattle.monitor_run.proofs.Leaving.{refusal_leaves}
use Rattle.monitor_run.proofs.laws.refusal_leaves.Goals as goal

pub returns : goal.returns
returns c = refusal_leaves
