-- Answers to the goals of `containment_is_certainty`, from the lemmas.
use Rattle.models.proofs.Freezing.{containment_is_certainty}
use Rattle.models.proofs.laws.containment_is_certainty.Goals as goal

pub returns : goal.returns
returns c = containment_is_certainty
