use Rattle.std.proofs.Common.{◌≡◌, ℕ, ◌∷◌, [], length, refl, subst, arith}
use Rattle.std.proofs.lemmas.Option.{slice_get_read}
use Rattle.perfect_ref.specs.Found.{Absorbs, Somewhere, IsMadeAt}
use Rattle.perfect_ref.proofs.Collected.{Absorbs-next, Absorbs-made}
use Rattle.perfect_ref.proofs.rewriting.core_of.Goals as goal

pub loop-cq-preserved : goal.loop-cq-preserved
loop-cq-preserved c = (
  Absorbs-next (IsMadeAt c.args.roles c.args.rules.now c.args.found.now) c.loop-cq.cq-index
      (c.args.start ∷ []) c.loop-cq.core.keys c.absorb_plain.new.core.keys c.loop-cq.invariant.0
      (Absorbs-made c.args.roles c.args.rules.now c.args.found.now c.loop-cq.cq-index
      c.cq-item.result c.loop-cq.made.items _ c.loop-cq.core.keys c.absorb_plain.new.core.keys
      (slice_get_read c.args.found.now (length c.args.found.now) c.loop-cq.cq-index c.cq-item.result
      refl c.loop-cq-test.true c.cq-item.is) c.loop-cq.invariant.1
      c.in_ok-push_with_nulls.ensures c.in_ok-absorb_plain.ensures.absorbs),
  c.in_ok-absorb_plain.ensures.emptied,
)

pub returns : goal.returns
returns c =
    let at : c.loop-cq.cq-index ≡ length c.args.found.now = omega arith in
    subst (λ (n : ℕ). Absorbs (Somewhere (IsMadeAt c.args.roles c.args.rules.now c.args.found.now)
    n) (c.args.start ∷ []) c.loop-cq.core.keys) at c.loop-cq.invariant.0
