-- Answers to the goals of `answers_are_common`, from the lemmas.
use Rattle.models_over_time.proofs.InModels.{answers_are_common}
use Rattle.models_over_time.proofs.laws.answers_are_common.Goals as goal

pub returns : goal.returns
returns c = answers_are_common
