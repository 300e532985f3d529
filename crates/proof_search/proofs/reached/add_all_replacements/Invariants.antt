use Rattle.perfect_ref.specs.Found.{Somewhere, IsReplacement}
use Rattle.proof_search.specs.Reached.{Grows}
use Rattle.proof_search.proofs.reached.add_all_replacements.Given as goal

abbrev pub invariant-loop-place : goal.invariant-loop-place
invariant-loop-place l =
    Grows l.inclusions (Somewhere (IsReplacement l.inclusions l.cq) l.place)
    l.initial.reached.found.keys l.initial.reached.links.items l.reached.found.keys
    l.reached.links.items
