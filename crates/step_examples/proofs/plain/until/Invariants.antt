use Rattle.std.proofs.Common.{ℕ, ◌<◌}
use Rattle.step_examples.specs.Plain.{IsSet}
use Rattle.step_examples.proofs.plain.until.Given as goal

abbrev pub invariant-loop-place : goal.invariant-loop-place
invariant-loop-place l = (j : ℕ) → j < l.place → IsSet l.g j → ((k : ℕ) → k < j → IsSet l.f k) → ⊥
