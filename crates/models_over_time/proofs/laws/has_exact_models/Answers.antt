-- Answers to the goals of `has_exact_models`, from the lemmas.
use Rattle.models_over_time.proofs.InModels.{has_exact_models}
use Rattle.models_over_time.proofs.laws.has_exact_models.Goals as goal

pub returns : goal.returns
returns c = has_exact_models
