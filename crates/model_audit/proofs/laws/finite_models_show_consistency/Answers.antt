-- Answers to the goals of `finite_models_show_consistency`, from the lemmas.
use Rattle.model_audit.proofs.Modelling.{finite_models_show_consistency}
use Rattle.model_audit.proofs.laws.finite_models_show_consistency.Goals as goal

pub returns : goal.returns
returns c = finite_models_show_consistency
