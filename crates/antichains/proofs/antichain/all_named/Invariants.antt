use Rattle.std.proofs.Common.{◌≡◌, ℕ, ◌<◌, ◌&&◌, drop}
use Rattle.antichains.specs.Family.{has}
use Rattle.antichains.specs.Sets.{is_inside}
use Rattle.antichains.specs.Families.{families_at}
use Rattle.antichains.proofs.antichain.all_named.Given as goal

abbrev pub invariant-loop-value : goal.invariant-loop-value
invariant-loop-value l = (v : ℕ) → v < 256
    → (has l.family v && is_inside l.rest (families_at (drop l.value-index l.values) v))
    ≡ is_inside l.fn.set (families_at l.values v)
