use Rattle.std.proofs.Common.{ℕ, ◌-◌, ◌<◌, ◌≤◌, length}
use Rattle.answer_tables.proofs.Runs.{run_at}
use Rattle.answer_tables.proofs.run.run_of.Given as goal

abbrev pub invariant-loop-low : goal.invariant-loop-low
invariant-loop-low l = record {
  order : l.low ≤ l.high;
  within : l.high ≤ length l.runs;
  before : (m : ℕ) → m < l.low → (run_at l.runs m).end ≤ l.rank;
  after : l.high < length l.runs → l.rank < (run_at l.runs l.high).end;
}

abbrev pub decreases-loop-low : goal.decreases-loop-low
decreases-loop-low l = l.high - l.low
