-- Answers to the goals of `more_keeps_answers`, from the lemmas.
use Rattle.models.proofs.Entailed.{more_keeps_answers, fewer_keeps_consistency}
use Rattle.models.proofs.laws.more_keeps_answers.Goals as goal

pub returns-clause-answers : goal.returns-clause-answers
returns-clause-answers c = more_keeps_answers

pub returns-clause-consistency : goal.returns-clause-consistency
returns-clause-consistency c = fewer_keeps_consistency
