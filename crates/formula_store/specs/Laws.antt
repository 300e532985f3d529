-- Laws of lists of antichains.
use Rattle.std.specs.Prelude.{ℕ, ◌↔◌, List, []}
use Rattle.std.specs.List.{Contains}
use Rattle.formula_store.specs.Interned.{interned_all, AreDistinct}

-- a new list has exactly the antichains that went in, each once
abbrev pub Generation : Type 0
Generation = (antichains : List (List ℕ)) → AreDistinct (interned_all [] antichains)
    × ((antichain : List ℕ) → Contains (interned_all [] antichains) antichain
    ↔ Contains antichains antichain)
