-- Answers to the goals of `has_exact_model`, from the lemmas.
use Rattle.models.proofs.Canonical.{has_exact_model}
use Rattle.models.proofs.laws.has_exact_model.Goals as goal

pub returns : goal.returns
returns c = has_exact_model
