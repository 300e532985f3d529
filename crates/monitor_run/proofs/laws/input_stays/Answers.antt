use Rattle.monitor_run.proofs.Leaving.{input_stays}
use Rattle.monitor_run.proofs.laws.input_stays.Goals as goal

pub returns : goal.returns
returns c = input_stays
