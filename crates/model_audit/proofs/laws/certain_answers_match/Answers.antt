-- Answers to the goals of `certain_answers_match`, from the lemmas.
use Rattle.model_audit.proofs.Modelling.{certain_answers_match}
use Rattle.model_audit.proofs.laws.certain_answers_match.Goals as goal

pub returns : goal.returns
returns c = certain_answers_match
