-- A list of distinct antichains with one more.
use Rattle.std.specs.Prelude.{◌≡◌, ◌≢◌, ℕ, nat_eq, if◌then◌else◌, List, [], ◌∷◌, ◌++◌, fold}
use Rattle.std.specs.List.{list_any, AllPairs}
use Rattle.std.specs.Cmp.Lexicographic.{pointwise}

-- the list stays where it has the antichain, else the antichain goes last
abbrev pub interned : List (List ℕ) → List ℕ → List (List ℕ)
interned antichains antichain =
    (if list_any (pointwise nat_eq antichain) antichains then antichains else antichains
    ++ antichain ∷ [])

-- the list after each of these goes in
abbrev pub interned_all : List (List ℕ) → List (List ℕ) → List (List ℕ)
interned_all antichains more = fold interned antichains more

-- no antichain is there twice
abbrev pub AreDistinct : List (List ℕ) → Type 0
AreDistinct antichains = AllPairs (λ a b. a ≢ b) antichains

-- the second list begins with the first
abbrev pub Extends : List (List ℕ) → List (List ℕ) → Type 0
Extends old new = (more : List (List ℕ)) × (new ≡ old ++ more)
