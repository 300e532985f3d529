use Rattle.owl_faults.proofs.TooMany as too_many
use Rattle.owl_faults.proofs.fault_of_limits.Goals as goal

pub returns : goal.returns
returns c = too_many.fault_of_limits
