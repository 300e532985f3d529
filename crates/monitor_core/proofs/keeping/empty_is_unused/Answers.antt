use Rattle.monitor_core.proofs.Restoring.{unused}
use Rattle.monitor_core.proofs.keeping.empty_is_unused.Goals as goal

pub returns : goal.returns
returns c = unused
