use Rattle.std.proofs.Common.{ℕ, ◌<◌, length}
use Rattle.step_examples.specs.Plain.{IsSet}
use Rattle.step_examples.proofs.plain.since.Given as goal

abbrev pub invariant-loop-place : goal.invariant-loop-place
invariant-loop-place l = (j : ℕ) → j < l.place → IsSet l.g j
    → ((k : ℕ) → j < k → k < length l.f → IsSet l.f k) → ⊥
