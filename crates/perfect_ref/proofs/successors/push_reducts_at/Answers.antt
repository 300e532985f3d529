use Rattle.std.proofs.Common.{◌≡◌, ℕ, subst, arith}
use Rattle.query_unify.specs.Reach.{Reduces}
use Rattle.perfect_ref.specs.Found.{Gains, Somewhere}
use Rattle.perfect_ref.proofs.Gained.{Gains-start, Gains-next}
use Rattle.perfect_ref.proofs.successors.push_reducts_at.Goals as goal

pub loop-first-init : goal.loop-first-init
loop-first-init c = Gains-start (λ j. Reduces j c.args.second c.args.cq.now) c.args.out.now.items

pub loop-first-preserved : goal.loop-first-preserved
loop-first-preserved c =
    Gains-next (λ j. Reduces j c.args.second c.args.cq.now) c.loop-first.first c.args.out.now.items
    c.loop-first.out.items _ c.loop-first.invariant c.in_ok-push_reduct.ensures

pub returns : goal.returns
returns c =
    let at : c.loop-first.first ≡ c.args.second = omega arith in
    subst (λ (n : ℕ). Gains (Somewhere (λ j. Reduces j c.args.second c.args.cq.now) n)
    c.args.out.now.items c.loop-first.out.items) at c.loop-first.invariant
