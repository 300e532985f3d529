use Rattle.query_unify.proofs.Bound.{IsQuery-step}
use Rattle.query_unify.proofs.laws.step_keeps_query.Goals as goal

pub returns : goal.returns
returns c = IsQuery-step
