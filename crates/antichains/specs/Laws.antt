-- Laws of antichains.
use Rattle.std.specs.Prelude.{◌≡◌, ℕ, ◌<◌, ◌≤◌, ◌^◌, ◌↔◌, Bool, List, All, length}
use Rattle.antichains.specs.Sets.{holds}
use Rattle.antichains.specs.Antichain.{IsAntichain, IsMinimal, IsMonotone}
use Rattle.antichains.specs.Minimal.{AreMinimalSets}

-- two antichains that hold at the same sets are equal
abbrev pub Canonical : Type 0
Canonical = (a b : List ℕ) → IsAntichain a → IsAntichain b
    → ((v : ℕ) → v < 256 → holds a v ≡ holds b v) → a ≡ b

-- the antichain of a monotone function is the list of its minimal sets
abbrev pub MinimalSets : Type 0
MinimalSets = (f : ℕ → Bool) → IsMonotone f → (sets : List ℕ)
    → IsMinimal f sets ↔ AreMinimalSets f sets

-- what a list of sets holds at is monotone
abbrev pub MonotoneHolds : Type 0
MonotoneHolds = (sets : List ℕ) → IsMonotone (holds sets)

-- a antichain of sets of the first so many nodes has at most as many sets as there are
abbrev pub FewSets : Type 0
FewSets = (nodes : ℕ) (sets : List ℕ) → IsAntichain sets → All (λ set. set < 2 ^ nodes) sets
    → length sets ≤ 2 ^ nodes
