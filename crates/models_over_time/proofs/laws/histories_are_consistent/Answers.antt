-- Answers to the goals of `histories_are_consistent`, from the lemmas.
use Rattle.models_over_time.proofs.InModels.{histories_are_consistent, histories_answers_are_common}
use Rattle.models_over_time.proofs.laws.histories_are_consistent.Goals as goal

pub returns-clause-consistent : goal.returns-clause-consistent
returns-clause-consistent c = histories_are_consistent

pub returns-clause-answers : goal.returns-clause-answers
returns-clause-answers c = histories_answers_are_common
