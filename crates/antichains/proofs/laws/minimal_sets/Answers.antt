use Rattle.antichains.proofs.Minimal.{minimal_sets}
use Rattle.antichains.proofs.laws.minimal_sets.Goals as goal

pub returns : goal.returns
returns c = minimal_sets
