use Rattle.std.proofs.Common.{List}
use Rattle.dl_syntax.specs.declared.ontology.Inclusion.{Inclusion}
use Rattle.query_unify.specs.Reach.{Reduces}
use Rattle.perfect_ref.specs.Found.{Somewhere}
use Rattle.proof_search.specs.Reached.{Grows}
use Rattle.proof_search.proofs.reached.add_reducts_at.Given as goal

abbrev pub invariant-loop-first : goal.invariant-loop-first
invariant-loop-first l = (inclusions : List Inclusion)
    → Grows inclusions (Somewhere (λ j. Reduces j l.second l.cq) l.first)
    l.initial.reached.found.keys
    l.initial.reached.links.items l.reached.found.keys l.reached.links.items
