use Rattle.tcq_syntax.proofs.NodeClauses.{nodes_hold}
use Rattle.tcq_syntax.proofs.laws.nodes_hold.Goals as goal

pub returns : goal.returns
returns c = nodes_hold
