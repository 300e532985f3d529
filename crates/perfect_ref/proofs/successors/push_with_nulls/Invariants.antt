use Rattle.perfect_ref.specs.Found.{Gains, Somewhere, IsNullReplacement}
use Rattle.perfect_ref.proofs.successors.push_with_nulls.Given as goal

abbrev pub invariant-loop-place : goal.invariant-loop-place
invariant-loop-place l = Gains (Somewhere (IsNullReplacement l.rules l.cq) l.place)
    l.initial.out.items l.out.items
