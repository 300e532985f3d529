use Rattle.perfect_ref.specs.Found.{Gains, Somewhere}
use Rattle.perfect_ref.proofs.Gained.{ByNumber}
use Rattle.perfect_ref.proofs.successors.push_replacements.Given as goal

abbrev pub invariant-loop-inclusion : goal.invariant-loop-inclusion
invariant-loop-inclusion l =
    Gains (Somewhere (ByNumber l.inclusions l.cq l.place) l.inclusion-index) l.initial.out.items
    l.out.items
