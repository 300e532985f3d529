use Rattle.std.proofs.Common.{◌-◌, ◌≤◌, drop}
use Rattle.std.specs.Prelude.{slice_index}
use Rattle.answer_tables.proofs.Spreads.{Spreading}
use Rattle.answer_tables.proofs.spread.+spread.Given as goal

abbrev pub decreases-spread : goal.decreases-spread
decreases-spread l = l.arity

abbrev pub invariant-loop-digit : goal.invariant-loop-digit
invariant-loop-digit l = record {
  within : l.digit ≤ l.slots;
  so : Spreading l.runs (slice_index l.weights 0) (drop 1 l.weights) l.slots l.limit l.old l.start
      l.fn.new.items l.new.items l.digit;
}

abbrev pub decreases-loop-digit : goal.decreases-loop-digit
decreases-loop-digit l = l.slots - l.digit
