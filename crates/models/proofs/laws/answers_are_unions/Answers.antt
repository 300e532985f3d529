-- Answers to the goals of `answers_are_unions`, from the lemmas.
use Rattle.models.proofs.AllModels.{answers_are_unions}
use Rattle.models.proofs.laws.answers_are_unions.Goals as goal

pub returns : goal.returns
returns c = answers_are_unions
