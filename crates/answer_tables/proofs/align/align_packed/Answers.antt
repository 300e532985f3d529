use Rattle.std.proofs.Common.{ℕ, List, Option, length, sym, ◌∙◌, ap, subst, Vec, Global}
use Rattle.std.specs.Prelude.{IfSome}
use Rattle.answer_tables.specs.Runs.{unit_runs, AreAlike}
use Rattle.answer_tables.proofs.UnitRuns.{end_unit}
use Rattle.answer_tables.proofs.align.align_packed.Goals as goal

pub align_bytes-requires-clause-many : goal.align_bytes-requires-clause-many
align_bytes-requires-clause-many c =
    let first = c.in-Some.first.items in
    let second = c.in-Some-2.second.items in
    let like_a : AreAlike c.args.a.now (unit_runs 0 first) =
    subst (λ (o : Option (Vec ℕ Global)).
    IfSome o (λ x. AreAlike c.args.a.now (unit_runs 0 x.items))) c.in-Some.is
    c.in_ok-first.ensures in
    let like_b : AreAlike c.args.b.now (unit_runs 0 second) =
    subst (λ (o : Option (Vec ℕ Global)).
    IfSome o (λ x. AreAlike c.args.b.now (unit_runs 0 x.items))) c.in-Some-2.is
    c.in_ok-second.ensures in
    ap (λ (ns : List ℕ). length ns) c.as_slice.ensures.value ∙ sym
    (end_unit first) ∙ like_a.ends ∙ c.requires.ends ∙ sym like_b.ends ∙ end_unit second ∙ sym
    (ap (λ (ns : List ℕ). length ns) c.as_slice-2.ensures.value)
