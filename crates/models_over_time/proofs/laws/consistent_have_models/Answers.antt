-- Answers to the goals of `consistent_have_models`, from the lemmas.
use Rattle.models_over_time.proofs.InModels.{consistent_have_models}
use Rattle.models_over_time.proofs.laws.consistent_have_models.Goals as goal

pub returns : goal.returns
returns c = consistent_have_models
