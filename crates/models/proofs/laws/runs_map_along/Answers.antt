-- Answers to the goals of `runs_map_along`, from the lemmas.
use Rattle.models.proofs.AlongMaps.{runs_map_along}
use Rattle.models.proofs.laws.runs_map_along.Goals as goal

pub returns : goal.returns
returns c = runs_map_along
