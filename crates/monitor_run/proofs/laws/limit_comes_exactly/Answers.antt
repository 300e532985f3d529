use Rattle.monitor_run.proofs.Limits.{limit_comes_exactly}
use Rattle.monitor_run.proofs.laws.limit_comes_exactly.Goals as goal

pub returns : goal.returns
returns c = limit_comes_exactly
