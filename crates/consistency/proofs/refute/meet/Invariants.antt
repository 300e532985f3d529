use Rattle.std.proofs.Common.{◌≡◌, ℕ, ◌<◌, get_or}
use Rattle.std.specs.Prelude.{bit_and}
use Rattle.consistency.proofs.refute.meet.Given as goal

abbrev pub invariant-loop-place : goal.invariant-loop-place
invariant-loop-place l = (k : ℕ) → k < l.place → bit_and (get_or l.one k 0) (get_or l.other k 0) ≡ 0
