use Rattle.std.proofs.Common.{◌≡◌, ◌<◌, ℕ, length, slice_index}
use Rattle.answer_tables.proofs.patch.has_all.Given as goal

abbrev pub invariant-loop-number : goal.invariant-loop-number
invariant-loop-number l = (i : ℕ) → i < l.number
    → (n : ℕ) × (n < length l.bytes) × (slice_index l.bytes n ≡ i)
