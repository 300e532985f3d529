use Rattle.std.proofs.Common.{◌<◌, ℕ, ap, arith}
use Rattle.answer_tables.specs.Table.{Antichains}
use Rattle.progression.proofs.FitTests.{RiseTo-step}
use Rattle.progression.proofs.fitting.are_rising.Goals as goal

pub loop-place-preserved : goal.loop-place-preserved
loop-place-preserved c =
    let before = c.index-tables-place.result in
    let here = c.index-tables-place-in-loop-place.result in
    let less : before.0 < here.0 =
    omega (
      arith,
      c.if-tables-place.false,
      ap (λ (e : ℕ × Antichains).
          e.0) c.index-tables-place.is,
      ap (λ (e : ℕ × Antichains).
          e.0) c.index-tables-place-in-loop-place.is,
    ) in
    RiseTo-step c.args.tables.now c.loop-place.place before here c.loop-place.auto.place
    c.loop-place-test.true c.index-tables-place.is c.index-tables-place-in-loop-place.is less
    c.loop-place.invariant
