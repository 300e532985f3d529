-- Answers to the goals of `clashes_map_along`, from the lemmas.
use Rattle.models.proofs.AlongMaps.{clashes_map_along}
use Rattle.models.proofs.laws.clashes_map_along.Goals as goal

pub returns : goal.returns
returns c = clashes_map_along
