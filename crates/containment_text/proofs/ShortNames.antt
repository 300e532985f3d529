-- A name is kept whole in place.
use Rattle.std.proofs.Common.{◌≡◌, ℕ, List, [], ◌∷◌, take, refl}
use Rattle.std.proofs.lemmas.List.{take_all}
use Rattle.dl_syntax.specs.Names.{IsName}

pub whole_name : (text : List ℕ) → IsName text → take 64 text ≡ text
whole_name [] name = absurd name
whole_name (first ∷ rest) name = take_all 64 (first ∷ rest) name.2
