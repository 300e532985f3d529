-- Answers to the goals of `entailed_change_nothing`, from the lemmas.
use Rattle.models.proofs.Entailed.{entailed_keep_answers, entailed_keep_consistency}
use Rattle.models.proofs.laws.entailed_change_nothing.Goals as goal

pub returns-clause-answers : goal.returns-clause-answers
returns-clause-answers c = entailed_keep_answers

pub returns-clause-consistency : goal.returns-clause-consistency
returns-clause-consistency c = entailed_keep_consistency
