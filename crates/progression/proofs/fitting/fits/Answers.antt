use Rattle.std.proofs.Common.{◌<◌, ℕ, refl, sym, subst, arith}
use Rattle.std.specs.List.{All, AllPairs}
use Rattle.std.proofs.lemmas.Bool.{false≢true}
use Rattle.tcq_syntax.specs.Formula.{IsTable}
use Rattle.tcq_syntax.proofs.Trees.{children_are_below}
use Rattle.answer_tables.specs.Table.{Antichains}
use Rattle.progression.specs.Kept.{FitsNode, AreComplete}
use Rattle.progression.proofs.fitting.fits.Goals as goal

pub returns-then-not-are_complete : goal.returns-then-not-are_complete
returns-then-not-are_complete c = (
  λ h. absurd (false≢true h),
  λ fits. c.if-not-are_complete.ensures.1
      (subst (AreComplete c.args.query.now.nodes) (sym c.as_slice.ensures.value)
      (fits.complete (omega (arith, c.if-kept-eq0.false)))),
)

pub returns-then-not-are_rising : goal.returns-then-not-are_rising
returns-then-not-are_rising c = (
  λ h. absurd (false≢true h),
  λ fits. c.if-not-are_rising.ensures.1
      (subst (AllPairs (λ (entry later : ℕ × Antichains). entry.0 < later.0))
      (sym c.as_slice-2.ensures.value) fits.rising),
)

pub future_sets-sets-requires-clause-table : goal.future_sets-sets-requires-clause-table
future_sets-sets-requires-clause-table c =
    subst IsTable (sym c.nodes.ensures.same)
    (children_are_below c.args.query.now.vars c.args.query.now.nodes c.nodes.ensures.valid).0

pub returns : goal.returns
returns c = (
  λ h. record {
    none = λ zero. absurd (c.if-kept-eq0.false zero);
    rising = subst (AllPairs (λ (entry later : ℕ × Antichains). entry.0 < later.0))
        c.as_slice-2.ensures.value (c.if-not-are_rising.ensures.0 refl);
    tables = subst (All (λ (entry : ℕ × Antichains).
        FitsNode c.args.query.now c.args.slots entry.0 entry.1)) c.as_slice-3.ensures.value
        (c.all_fit.ensures.0 h);
    complete = λ some. subst (AreComplete c.args.query.now.nodes) c.as_slice.ensures.value
        (c.if-not-are_complete.ensures.0 refl);
  },
  λ fits. c.all_fit.ensures.1 (subst (All (λ (entry : ℕ × Antichains).
      FitsNode c.args.query.now c.args.slots entry.0 entry.1)) (sym c.as_slice-3.ensures.value)
      fits.tables),
)
