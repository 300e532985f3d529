-- Answers to the goals of `runs_map_into`, from the lemmas.
use Rattle.models.proofs.IntoModels.{runs_map_into}
use Rattle.models.proofs.laws.runs_map_into.Goals as goal

pub returns : goal.returns
returns g c = runs_map_into _
