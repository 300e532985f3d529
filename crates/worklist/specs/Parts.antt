-- The transition of the tests.
use Rattle.std.specs.Prelude.{ℕ, ◌/◌, List, [], ◌∷◌}

-- the half and the third of a number
abbrev pub parts_of : ℕ → List ℕ
parts_of x = x / 2 ∷ x / 3 ∷ []
