use Rattle.perfect_ref.proofs.Answering.{reachable_is_query}
use Rattle.perfect_ref.proofs.laws.reachable_is_query.Goals as goal

pub returns : goal.returns
returns c = reachable_is_query
