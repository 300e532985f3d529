-- The minimal sets of a function, in the words of the subject.
use Rattle.std.specs.Prelude.{◌≡◌, ℕ, ◌<◌, ◌↔◌, Bool, true, List, AllPairs, Contains}
use Rattle.antichains.specs.Sets.{is_inside}

-- the function holds at the set, and at no smaller one inside it
pub record IsMinimalSet (f : ℕ → Bool) (v : ℕ) : Type 0 where
  pub in_range : v < 256
  pub there : f v ≡ true
  pub least : (u : ℕ) → is_inside u v ≡ true → f u ≡ true → u ≡ v

-- the strictly rising list of the minimal sets
pub record AreMinimalSets (f : ℕ → Bool) (sets : List ℕ) : Type 0 where
  pub rising : AllPairs (λ a b. a < b) sets
  pub member : (v : ℕ) → Contains sets v ↔ IsMinimalSet f v
