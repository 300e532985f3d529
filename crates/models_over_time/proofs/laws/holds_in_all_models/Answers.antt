-- Answers to the goals of `holds_in_all_models`, from the lemmas.
use Rattle.models_over_time.proofs.InModels.{holds_in_models, holds_in_all_models}
use Rattle.models_over_time.proofs.laws.holds_in_all_models.Goals as goal

pub returns-clause-each : goal.returns-clause-each
returns-clause-each g c = holds_in_models (λ i. _) _

pub returns-clause-all : goal.returns-clause-all
returns-clause-all g c = holds_in_all_models
