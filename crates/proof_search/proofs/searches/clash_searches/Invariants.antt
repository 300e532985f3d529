use Rattle.std.proofs.Common.{take}
use Rattle.std.specs.List.{AllZip}
use Rattle.proof_search.specs.Explainer.{IsSearchOfClash}
use Rattle.proof_search.proofs.searches.clash_searches.Given as goal

abbrev pub invariant-loop-clash : goal.invariant-loop-clash
invariant-loop-clash l =
    AllZip (IsSearchOfClash l.ontology l.room) (take l.clash-index l.clashes) l.all.items
