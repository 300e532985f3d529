use Rattle.std.proofs.Common.{take}
use Rattle.std.specs.List.{AllZip}
use Rattle.proof_search.specs.Explainer.{IsSearchOf}
use Rattle.proof_search.proofs.searches.searches_of.Given as goal

abbrev pub invariant-loop-node : goal.invariant-loop-node
invariant-loop-node l =
    AllZip (IsSearchOf l.ontology l.room) (take l.node-index l.nodes) l.searches.items
