use Rattle.std.proofs.Common.{◌≡◌, ℕ, length, ap, subst, arith}
use Rattle.perfect_ref.specs.Found.{Gains, Somewhere, IsReductAt}
use Rattle.perfect_ref.proofs.Gained.{Gains-start, Gains-next}
use Rattle.perfect_ref.proofs.successors.push_reducts.Goals as goal

pub loop-second-init : goal.loop-second-init
loop-second-init c = Gains-start (λ k. IsReductAt c.args.cq.now k) c.args.out.now.items

pub loop-second-preserved : goal.loop-second-preserved
loop-second-preserved c = Gains-next (λ k. IsReductAt c.args.cq.now k) c.loop-second.second
    c.args.out.now.items c.loop-second.out.items _ c.loop-second.invariant
    c.in_ok-push_reducts_at.ensures

pub returns : goal.returns
returns c =
    let count : length c.as_slice-count.result.now ≡ length c.args.cq.now.body =
    ap length c.as_slice-count.ensures in
    let at : c.loop-second.second ≡ length c.args.cq.now.body = omega arith in
    subst (λ (n : ℕ). Gains (Somewhere (λ k. IsReductAt c.args.cq.now k) n) c.args.out.now.items
    c.loop-second.out.items) at c.loop-second.invariant
