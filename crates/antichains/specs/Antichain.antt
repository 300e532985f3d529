-- The minimal sets of a monotone function of eight variables.
use Rattle.std.specs.Prelude.{◌≡◌, ℕ, ◌<◌, ◌+◌, ◌*◌, [], ◌∷◌, cond, Bool, true, false, List, All}
use Rattle.std.specs.Prelude.{AllPairs}
use Rattle.antichains.specs.Sets.{is_inside, holds}

-- strictly rising, and no set inside another
pub record IsAntichain (sets : List ℕ) : Type 0 where
  pub in_range : All (λ m. m < 256) sets
  pub rising : AllPairs (λ a b. a < b) sets
  pub apart : AllPairs (λ a b. is_inside a b ≡ false) sets

-- the minimal sets at which a function holds
pub record IsMinimal (f : ℕ → Bool) (sets : List ℕ) : Type 0 where
  pub antichain : IsAntichain sets
  pub same : (v : ℕ) → v < 256 → holds sets v ≡ f v

-- what holds at a set holds at each set that it lies inside
abbrev pub IsMonotone : (ℕ → Bool) → Type 0
IsMonotone f = (u v : ℕ) → v < 256 → is_inside u v ≡ true → f u ≡ true → f v ≡ true

-- the set of the nodes whose values hold at a set
abbrev pub values_at : List (List ℕ) → ℕ → ℕ
values_at [] v = 0
values_at (x ∷ xs) v = cond (holds x v) 1 0 + 2 * values_at xs v
