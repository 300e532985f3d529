-- The first element of a list that lacks a property.
use Rattle.std.specs.Prelude.{◌≡◌, ℕ, Option, Some, None, List, take, slice_get}
use Rattle.std.specs.List.{All}

-- the element at the place lacks the property, and each earlier one has it
pub record LacksFirst {X : Type 0} (P : X → Type 0) (xs : List X) (place : ℕ) : Type 0 where
  pub element : X
  pub there : slice_get xs place ≡ Some element
  pub lacks : ¬ P element
  pub earlier : All P (take place xs)

-- the place of the first element that lacks it, or none where all have it
abbrev pub IsFirstLack : {X : Type 0} → (X → Type 0) → List X → Option ℕ → Type 0
IsFirstLack P xs None = All P xs
IsFirstLack P xs (Some place) = LacksFirst P xs place
