use Rattle.formula_store.proofs.Lists.{generation}
use Rattle.formula_store.proofs.laws.generation.Goals as goal

pub returns : goal.returns
returns c = generation
