-- The units so far and those of the next query.
use Rattle.std.proofs.Common.{◌≡◌, ◌≤◌, ℕ, sym, ap, subst, arith}
use Rattle.std.specs.Prelude.{slice_index_or}
use Rattle.std.specs.List.{sum_by}
use Rattle.std.proofs.lemmas.List.Sums.{sum_by_more, sum_by_more_le}
use Rattle.tcq_syntax.specs.declared.query.Sizes.{Sizes}
use Rattle.tcq_syntax.specs.Sizes.{units_of}
use Rattle.streams_report.proofs.opening.total_units.Goals as goal

pub overflow_add-total : goal.overflow_add-total
overflow_add-total c =
    let queries = c.args.queries.now in
    let q = c.query-item.result in
    let i = c.loop-query.query-index in
    let f = units_of c.count-individuals.result in
    let is = ap (λ (s : Sizes). s.units) c.sizes-total.ensures in
    let one : f q ≡ f (slice_index_or queries i q) = ap f c.query-item.is in
    let most = sum_by_more_le f queries i q c.loop-query-test.true in
    let few : sum_by f queries ≤ 67108864 =
    subst (λ (n : ℕ). sum_by (units_of n) queries ≤ 67108864)
    (sym c.count-individuals.ensures.count)
    c.requires.small in
    omega (arith, is, one, most, few, c.loop-query.invariant)

pub loop-query-preserved : goal.loop-query-preserved
loop-query-preserved c =
    let queries = c.args.queries.now in
    let q = c.query-item.result in
    let i = c.loop-query.query-index in
    let f = units_of c.count-individuals.result in
    let is = ap (λ (s : Sizes). s.units) c.sizes-total.ensures in
    let one : f q ≡ f (slice_index_or queries i q) = ap f c.query-item.is in
    let more = sum_by_more f queries i q c.loop-query-test.true in
    omega (arith, is, one, more, c.loop-query.invariant)
