use Rattle.std.proofs.Common.{◌≡◌, ◌<◌, ℕ, length, slice_index, sym, subst, arith, inl, inr}
use Rattle.std.proofs.lemmas.Bool.{cases_lt}
use Rattle.answer_tables.proofs.patch.has_all.Goals as goal

pub loop-number-preserved : goal.loop-number-preserved
loop-number-preserved c = λ i below. elim (cases_lt i c.loop-number.number) [
  | inl early ↦ c.loop-number.invariant i early
  | inr late ↦
      let last : i ≡ c.loop-number.number = omega (arith, below, late) in
      subst (λ (k : ℕ). (n : ℕ) × (n < length c.args.bytes.now)
      × (slice_index c.args.bytes.now n ≡ k)) (sym last) (c.has.ensures c.if-not-has.false)
]
