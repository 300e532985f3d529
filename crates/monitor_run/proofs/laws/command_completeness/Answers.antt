use Rattle.monitor_run.proofs.Completing.{command_completeness}
use Rattle.monitor_run.proofs.laws.command_completeness.Goals as goal

pub returns : goal.returns
returns c = command_completeness
