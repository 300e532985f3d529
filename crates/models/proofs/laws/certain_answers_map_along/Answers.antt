-- Answers to the goals of `certain_answers_map_along`, from the lemmas.
use Rattle.models.proofs.AlongMaps.{certain_answers_map_along}
use Rattle.models.proofs.laws.certain_answers_map_along.Goals as goal

pub returns : goal.returns
returns c = certain_answers_map_along
