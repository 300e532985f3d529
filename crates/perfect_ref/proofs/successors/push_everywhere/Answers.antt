use Rattle.std.proofs.Common.{◌≡◌, ℕ, length, ap, subst, arith}
use Rattle.perfect_ref.specs.Found.{Gains, Somewhere, IsReplacement}
use Rattle.perfect_ref.proofs.Gained.{Gains-start, Gains-next}
use Rattle.perfect_ref.proofs.successors.push_everywhere.Goals as goal

pub loop-place-init : goal.loop-place-init
loop-place-init c = Gains-start (IsReplacement c.args.rules.now c.args.cq.now) c.args.out.now.items

pub loop-place-preserved : goal.loop-place-preserved
loop-place-preserved c = Gains-next (IsReplacement c.args.rules.now c.args.cq.now)
    c.loop-place.place c.args.out.now.items c.loop-place.out.items _ c.loop-place.invariant
    c.in_ok-push_at.ensures

pub returns : goal.returns
returns c =
    let count : length c.as_slice-count.result.now ≡ length c.args.cq.now.body =
    ap length c.as_slice-count.ensures in
    let at : c.loop-place.place ≡ length c.args.cq.now.body = omega arith in
    subst (λ (n : ℕ). Gains (Somewhere (IsReplacement c.args.rules.now c.args.cq.now) n)
    c.args.out.now.items c.loop-place.out.items) at c.loop-place.invariant
