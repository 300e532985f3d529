use Rattle.tcq_syntax.proofs.Strangers.{later_names}
use Rattle.tcq_syntax.proofs.laws.later_names.Goals as goal

pub returns : goal.returns
returns c = later_names
