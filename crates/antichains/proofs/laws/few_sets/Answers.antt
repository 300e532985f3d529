use Rattle.antichains.proofs.Few.{few_sets}
use Rattle.antichains.proofs.laws.few_sets.Goals as goal

pub returns : goal.returns
returns c = few_sets
