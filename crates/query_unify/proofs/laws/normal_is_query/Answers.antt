use Rattle.query_unify.proofs.Bound.{IsQuery-normalise}
use Rattle.query_unify.proofs.laws.normal_is_query.Goals as goal

pub returns : goal.returns
returns c = IsQuery-normalise
