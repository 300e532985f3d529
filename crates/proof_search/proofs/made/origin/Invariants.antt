use Rattle.std.proofs.Common.{length}
use Rattle.proof_search.proofs.Origins.{Searched}
use Rattle.proof_search.proofs.made.origin.Given as goal

abbrev pub invariant-loop-place : goal.invariant-loop-place
invariant-loop-place l = Searched (length l.ontology.roles) l.ontology.inclusions l.inclusion
    l.place l.number
