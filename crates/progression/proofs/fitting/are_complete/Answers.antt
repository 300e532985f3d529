use Rattle.std.proofs.Common.{◌≡◌, ℕ, refl, sym, arith, inl, inr, ap, length, subst, map}
use Rattle.std.specs.List.{Contains}
use Rattle.std.proofs.lemmas.Bool.{false≢true, cases_lt}
use Rattle.tcq_syntax.specs.Kept.{IsKept}
use Rattle.progression.proofs.NextKept.{kept_of_query}
use Rattle.progression.proofs.fitting.are_complete.Goals as goal

pub returns-then-not-is_complete_at : goal.returns-then-not-is_complete_at
returns-then-not-is_complete_at c = (
  λ h. absurd (false≢true h),
  λ complete.
      c.if-not-is_complete_at.ensures.1 (complete c.loop-place.place),
)

pub loop-place-preserved : goal.loop-place-preserved
loop-place-preserved c p below kept = elim (cases_lt p c.loop-place.place) [
  | inl early ↦ c.loop-place.invariant p early kept
  | inr late ↦
      let same : c.loop-place.place ≡ p = omega arith in
      subst (λ (q : ℕ). Contains (map (λ entry. entry.0) c.args.tables.now) q) same
      (c.if-not-is_complete_at.ensures.0 refl
      (subst (IsKept c.args.query.now.nodes) (sym same) kept))
]

pub returns : goal.returns
returns c = (
  λ h place kept. c.loop-place.invariant place
      (omega (
        arith,
        c.loop-place-test.false,
        kept_of_query c.args.query.now
            c.nodes-place-end.ensures.valid place kept,
        ap length c.nodes-place-end.ensures.same,
      )) kept,
  λ complete. refl,
)
