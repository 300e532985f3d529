use Rattle.std.proofs.Common.{ap}
use Rattle.std.specs.Prelude.{Some}
use Rattle.tcq_syntax.specs.declared.nodes.Node.{Node}
use Rattle.run_proofs.specs.Shows.{leaf_of_node}
use Rattle.proof_search.proofs.searches.search_of.Goals as goal

pub new-requires : goal.new-requires
new-requires c = c.requires c.in-Leaf.cq
    (ap (λ (n : Node). leaf_of_node (Some n)) c.in-Leaf.is)
