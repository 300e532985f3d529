use Rattle.monitor_run.proofs.Completing.{completeness}
use Rattle.monitor_run.proofs.laws.completeness.Goals as goal

pub returns : goal.returns
returns c = completeness
