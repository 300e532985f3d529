use Rattle.perfect_ref.specs.Found.{Gains, Somewhere, IsReductAt}
use Rattle.perfect_ref.proofs.successors.push_reducts.Given as goal

abbrev pub invariant-loop-second : goal.invariant-loop-second
invariant-loop-second l = Gains (Somewhere (λ k. IsReductAt l.cq k) l.second) l.initial.out.items
    l.out.items
