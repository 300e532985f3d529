-- The row at a place, and those before it.
use Rattle.std.proofs.Common.{◌≡◌, ℕ, zero, suc, ◌+◌, List, [], ◌∷◌, ◌++◌, take, ◌∙◌, ap, subst}
use Rattle.std.proofs.Common.{arith, inl, inr, add-one}
use Rattle.std.specs.Prelude.{◌⊎◌, All, Some, slice_get}
use Rattle.std.specs.List.{Contains}
use Rattle.dl_syntax.specs.declared.names.IndId.{IndId}
use Rattle.dl_syntax.specs.Rows.{IsBelow, IsRising}
use Rattle.list_lemmas.proofs.Elements.{Contains-first, Contains-later, Contains-cons_cases}
use Rattle.list_lemmas.proofs.Elements.{AllPairs-head, AllPairs-tail}

row_there : (rows : List (List IndId)) (i : ℕ) (row : List IndId) → slice_get rows i ≡ Some row
    → Contains rows row
row_there [] i row at = cc
row_there (y ∷ ys) zero row at = let e : y ≡ row = cc in
    subst (Contains (y ∷ ys)) e (Contains-first y ys)
row_there (y ∷ ys) (suc i) row at = Contains-later y ys row (row_there ys i row at)

take_suc : (rows : List (List IndId)) (i : ℕ) (row : List IndId) → slice_get rows i ≡ Some row
    → take (suc i) rows ≡ take i rows ++ row ∷ []
take_suc [] i row at = cc
take_suc (y ∷ ys) zero row at = let e : y ≡ row = cc in ap (λ (z : List IndId). z ∷ []) e
take_suc (y ∷ ys) (suc i) row at = ap (λ (zs : List (List IndId)). y ∷ zs) (take_suc ys i row at)

pub take_row : (rows : List (List IndId)) (i : ℕ) (row : List IndId) → slice_get rows i ≡ Some row
    → take (i + 1) rows ≡ take i rows ++ row ∷ []
take_row rows i row at = ap (λ (k : ℕ). take k rows) (add-one i) ∙ take_suc rows i row at

-- the rows before one are below it
pub below_later : (rows : List (List IndId)) (i : ℕ) (row : List IndId) → IsRising rows
    → slice_get rows i ≡ Some row → (x : List IndId) → Contains (take i rows) x → IsBelow x row
below_later rows zero row rising at x there = absurd (let l = there.1 in omega (arith, l))
below_later [] (suc i) row rising at x there = absurd (let l = there.1 in omega (arith, l))
below_later (y ∷ ys) (suc i) row rising at x there =
    go (Contains-cons_cases y (take i ys) x there) (λ later.
    below_later ys i row (AllPairs-tail IsBelow y ys rising) at x later)
  where
    go : (y ≡ x) ⊎ Contains (take i ys) x → (Contains (take i ys) x → IsBelow x row) → IsBelow x row
    go (inl same) rest = subst (λ (z : List IndId).
        IsBelow z row) same (AllPairs-head IsBelow y ys row rising (row_there ys i row at))
    go (inr later) rest = rest later

pub row_holds : (P : List IndId → Type 0) (rows : List (List IndId)) (i : ℕ) (row : List IndId)
    → All P rows → slice_get rows i ≡ Some row → P row
row_holds P rows i row all at = let there = row_there rows i row at in
    subst P there.2 (all there.0 row there.1)
