-- Answers to the goals of `finite_models_are_models`, from the lemmas.
use Rattle.model_audit.proofs.Modelling.{finite_models_are_models}
use Rattle.model_audit.proofs.laws.finite_models_are_models.Goals as goal

pub returns : goal.returns
returns c = finite_models_are_models
