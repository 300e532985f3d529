-- Antichains of so many tuples in a row.
use Rattle.std.specs.Prelude.{ℕ, ◌+◌, ◌-◌, nat_lt, if◌then◌else◌, List, [], ◌∷◌}

-- each count gives its antichain to the next ranks
abbrev pub counted_antichain : List (ℕ × List ℕ) → ℕ → List ℕ
counted_antichain [] n = []
counted_antichain (r ∷ rs) n = (if nat_lt n r.0 then r.1 else counted_antichain rs (n - r.0))

-- how many ranks there are
abbrev pub count_of : List (ℕ × List ℕ) → ℕ
count_of [] = 0
count_of (r ∷ rs) = r.0 + count_of rs
