-- Answers to the goals of `certain_is_in_all_models`, from the lemmas.
use Rattle.models.proofs.IntoModels.{certain_answers_hold_in}
use Rattle.models.proofs.Canonical.{certain_is_in_all_models}
use Rattle.models.proofs.laws.certain_is_in_all_models.Goals as goal

pub returns-clause-each : goal.returns-clause-each
returns-clause-each g c = certain_answers_hold_in _

pub returns-clause-all : goal.returns-clause-all
returns-clause-all g c = certain_is_in_all_models
