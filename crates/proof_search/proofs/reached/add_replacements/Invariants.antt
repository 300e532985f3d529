use Rattle.perfect_ref.specs.Found.{Somewhere}
use Rattle.perfect_ref.proofs.Gained.{ByNumber}
use Rattle.proof_search.specs.Reached.{Grows}
use Rattle.proof_search.proofs.reached.add_replacements.Given as goal

abbrev pub invariant-loop-number : goal.invariant-loop-number
invariant-loop-number l =
    Grows l.inclusions (Somewhere (ByNumber l.inclusions l.cq l.place) l.number)
    l.initial.reached.found.keys l.initial.reached.links.items l.reached.found.keys
    l.reached.links.items
