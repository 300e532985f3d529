use Rattle.std.proofs.Common.{ℕ, ◌≡◌, ◌<◌}
use Rattle.answer_tables.proofs.Runs.{run_at}
use Rattle.answer_tables.proofs.true_at.has_number.Given as goal

abbrev pub invariant-loop-run : goal.invariant-loop-run
invariant-loop-run l = (m : ℕ) → m < l.run-index → ¬ ((run_at l.runs m).link ≡ l.link)
