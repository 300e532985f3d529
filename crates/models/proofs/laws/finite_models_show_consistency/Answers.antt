-- Answers to the goals of `finite_models_show_consistency`, from the lemmas.
use Rattle.models.proofs.AllModels.{finite_models_show_consistency}
use Rattle.models.proofs.laws.finite_models_show_consistency.Goals as goal

pub returns : goal.returns
returns c = finite_models_show_consistency
