use Rattle.query_unify.proofs.Soundness.{step_keeps_answers, reach_keeps_answers}
use Rattle.query_unify.proofs.laws.steps_keep_answers.Goals as goal

pub returns-clause-step : goal.returns-clause-step
returns-clause-step c = step_keeps_answers

pub returns-clause-reach : goal.returns-clause-reach
returns-clause-reach c = reach_keeps_answers
