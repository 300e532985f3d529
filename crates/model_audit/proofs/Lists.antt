-- The first element that lacks a property.
use Rattle.std.proofs.Common.{ℕ, ◌<◌, ◌≤◌, List, take, length, get_or, subst}
use Rattle.std.specs.List.{All}
use Rattle.std.proofs.lemmas.List.{take_all}
use Rattle.std.proofs.lemmas.Option.{slice_get-get_or}
use Rattle.model_audit.specs.First.{LacksFirst}

module _ {X : Type 0} (P : X → Type 0) (xs : List X) (k : ℕ) where
  pub lacks_here : (d : X) → k < length xs → All P (take k xs) → ¬ P (get_or xs k d)
      → LacksFirst P xs k
  lacks_here d within before fails = record {
    element = get_or xs k d;
    there = slice_get-get_or xs k d within;
    lacks = fails;
    earlier = before;
  }

  pub all_have : length xs ≤ k → All P (take k xs) → All P xs
  all_have long before = subst (All P) (take_all k xs long) before
