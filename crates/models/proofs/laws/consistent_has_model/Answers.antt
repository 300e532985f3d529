-- Answers to the goals of `consistent_has_model`, from the lemmas.
use Rattle.models.proofs.Canonical.{consistent_has_model}
use Rattle.models.proofs.laws.consistent_has_model.Goals as goal

pub returns : goal.returns
returns c = consistent_has_model
