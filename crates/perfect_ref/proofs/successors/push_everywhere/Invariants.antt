use Rattle.perfect_ref.specs.Found.{Gains, Somewhere, IsReplacement}
use Rattle.perfect_ref.proofs.successors.push_everywhere.Given as goal

abbrev pub invariant-loop-place : goal.invariant-loop-place
invariant-loop-place l = Gains (Somewhere (IsReplacement l.rules l.cq) l.place) l.initial.out.items
    l.out.items
