use Rattle.std.proofs.Common.{List}
use Rattle.dl_syntax.specs.declared.ontology.Inclusion.{Inclusion}
use Rattle.perfect_ref.specs.Found.{Somewhere, IsReductAt}
use Rattle.proof_search.specs.Reached.{Grows}
use Rattle.proof_search.proofs.reached.add_reducts.Given as goal

abbrev pub invariant-loop-second : goal.invariant-loop-second
invariant-loop-second l = (inclusions : List Inclusion)
    → Grows inclusions (Somewhere (λ k. IsReductAt l.cq k) l.second) l.initial.reached.found.keys
    l.initial.reached.links.items l.reached.found.keys l.reached.links.items
