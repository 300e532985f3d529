use Rattle.query_unify.specs.Reach.{Reduces}
use Rattle.perfect_ref.specs.Found.{Gains, Somewhere}
use Rattle.perfect_ref.proofs.successors.push_reducts_at.Given as goal

abbrev pub invariant-loop-first : goal.invariant-loop-first
invariant-loop-first l = Gains (Somewhere (λ j. Reduces j l.second l.cq) l.first)
    l.initial.out.items l.out.items
