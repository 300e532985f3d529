-- What finitely many steps lead to.
use Rattle.std.specs.Prelude.{◌≡◌, ◌≢◌, ℕ, suc, zero, ◌<◌, ◌++◌, List, Contains, All, length, Some}
use Rattle.std.specs.Prelude.{slice_get, Bool}
use Rattle.std.specs.Bool.{Decides}
use Rattle.std.specs.List.{AllPairs}

-- the test answers true exactly where the two are equal
abbrev pub IsExact : {S : Type 0} → (S → S → Bool) → Type 0
IsExact {S} eq = (x y : S) → Decides (eq x y) (x ≡ y)

-- new is old followed by some of the items
pub record Grows {S : Type 0} (old items new : List S) : Type 0 where
  pub added : List S
  pub order : new ≡ old ++ added
  pub source : All (Contains items) added

module _ {S : Type 0} (step : S → S → Type 0) where
  -- a walk of so many steps
  abbrev pub Walk : S → ℕ → S → Type 0
  Walk x zero y = x ≡ y
  Walk x (suc n) y = (z : S) × Walk x n z × step z y

  -- some walk leads there
  abbrev pub Reaches : S → S → Type 0
  Reaches x y = (n : ℕ) × Walk x n y

  -- exactly what is reachable from the start, each once
  pub record IsClosure (start : S) (found : List S) : Type 0 where
    pub distinct : AllPairs (λ x y. x ≢ y) found
    pub sound : All (Reaches start) found
    pub complete : (y : S) → Reaches start y → Contains found y

  -- more than so many different values are reachable from the start
  pub record ReachesMore (start : S) (room : ℕ) : Type 0 where
    pub found : List S
    pub distinct : AllPairs (λ x y. x ≢ y) found
    pub sound : All (Reaches start) found
    pub more : room < length found

  -- new is old followed by exactly what one step leads to from the value, in some order
  pub record Adds (x : S) (old new : List S) : Type 0 where
    pub added : List S
    pub order : new ≡ old ++ added
    pub sound : All (step x) added
    pub complete : (y : S) → step x y → Contains added y

  -- new is old followed by some of what one step leads to from the value at the place
  pub record Expands (old : List S) (place : ℕ) (new : List S) : Type 0 where
    pub value : S
    pub at : slice_get old place ≡ Some value
    pub items : List S
    pub sound : All (step value) items
    pub grows : Grows old items new

  -- all that one step leads to from the value at the place is found
  abbrev pub IsDone : List S → ℕ → Type 0
  IsDone found place = (x : S) → slice_get found place ≡ Some x → (y : S) → step x y
      → Contains found y
