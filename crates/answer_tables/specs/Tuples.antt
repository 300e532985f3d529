-- Tuples of individuals, and their numbers.
use Rattle.std.specs.Prelude.{◌≡◌, ℕ, zero, suc, ◌+◌, ◌*◌, ◌^◌, ◌<◌, List, [], ◌∷◌, ◌++◌, length}
use Rattle.std.specs.Prelude.{map, All}
use Rattle.dl_syntax.specs.declared.names.IndId.{IndId}

-- a tuple of so many individuals, each below a number
abbrev pub IsTuple : ℕ → ℕ → List IndId → Type 0
IsTuple slots arity tuple = (length tuple ≡ arity) × All (λ i. i.0 < slots) tuple

-- how many tuples come before this one, in rising order
abbrev pub number : ℕ → List IndId → ℕ
number slots [] = 0
number slots (i ∷ tuple) = i.0 * slots ^ length tuple + number slots tuple

-- the tuples with each first individual below a number before each of the rests
abbrev pub with_first : ℕ → List (List IndId) → List (List IndId)
with_first zero rests = []
with_first (suc n) rests = with_first n rests ++ map (λ rest. (record { 0 = n }) ∷ rest) rests

-- all tuples of so many individuals below a number, in rising order
abbrev pub tuples : ℕ → ℕ → List (List IndId)
tuples slots zero = [] ∷ []
tuples slots (suc arity) = with_first slots (tuples slots arity)
