-- Lists by number.
use Rattle.std.specs.Prelude.{ℕ, zero, suc, List, [], ◌∷◌, Vec}
use Rattle.std.specs.Global.{Global}

-- the list of the number, where there is one
abbrev pub listed : {T : Type 0} → List (Vec T Global) → ℕ → List T
listed [] k = []
listed (list ∷ lists) zero = list.items
listed (list ∷ lists) (suc k) = listed lists k
