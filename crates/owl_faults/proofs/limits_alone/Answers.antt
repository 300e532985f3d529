use Rattle.owl_faults.proofs.UpTo as up_to
use Rattle.owl_faults.proofs.limits_alone.Goals as goal

pub returns : goal.returns
returns c = up_to.limits_alone
