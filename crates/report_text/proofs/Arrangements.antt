-- Lists of the same different elements.
use Rattle.std.proofs.Common.{◌≡◌, List, [], ◌∷◌, ◌++◌, sym, ap, subst, inl, inr}
use Rattle.std.specs.Prelude.{◌≢◌}
use Rattle.std.specs.List.{AllPairs, Contains}
use Rattle.std.specs.List.Sorted.{IsPermutation}
use Rattle.std.proofs.lemmas.List.Elements.{Contains-append_left, Contains-append_right}
use Rattle.std.proofs.lemmas.List.Elements.{Contains-append_cases}
use Rattle.std.proofs.lemmas.List.Sorted.{IsPermutation-refl, IsPermutation-sym}
use Rattle.std.proofs.lemmas.List.Sorted.{IsPermutation-trans, IsPermutation-cons}
use Rattle.std.proofs.lemmas.List.Sorted.{IsPermutation-middle}
use Rattle.list_lemmas.proofs.Elements.{Contains-none, Contains-first, Contains-later}
use Rattle.list_lemmas.proofs.Elements.{Contains-cons_cases, AllPairs-tail, AllPairs-head}
use Rattle.list_lemmas.proofs.Elements.{AllPairs-front, AllPairs-back, AllPairs-across}
use Rattle.list_lemmas.proofs.Elements.{AllPairs-append}

-- the two parts of a list around an element
record Around {X : Type 0} (xs : List X) (x : X) : Type 0 where
  front : List X
  rest : List X
  parts : xs ≡ front ++ x ∷ rest

around : {X : Type 0} (xs : List X) (x : X) → Contains xs x → Around xs x
around [] x there = absurd (Contains-none x there)
around (y ∷ ys) x there = elim (Contains-cons_cases y ys x there) [
  | inl same ↦ record { front = []; rest = ys; parts = ap (λ z. z ∷ ys) same }
  | inr later ↦ (let a : Around ys x = around ys x later in
      record { front = y ∷ a.front; rest = a.rest; parts = ap (λ zs. y ∷ zs) a.parts })
]

module _ {X : Type 0} (x : X) (xs ys : List X) (one : AllPairs (λ p r. p ≢ r) (x ∷ xs))
    (other : AllPairs (λ p r. p ≢ r) ys) (to : (z : X) → Contains (x ∷ xs) z
    → Contains ys z) (from : (z : X) → Contains ys z → Contains (x ∷ xs) z) (a : Around ys x) where
  pairs : AllPairs (λ p r. p ≢ r) (a.front ++ x ∷ a.rest)
  pairs = subst (AllPairs (λ p r. p ≢ r)) a.parts other

  back_pairs : AllPairs (λ p r. p ≢ r) (x ∷ a.rest)
  back_pairs = AllPairs-back (λ p r. p ≢ r) a.front (x ∷ a.rest) pairs

  without : AllPairs (λ p r. p ≢ r) (a.front ++ a.rest)
  without = AllPairs-append (λ p r. p ≢ r) a.front a.rest
      (AllPairs-front (λ p r. p ≢ r) a.front (x ∷ a.rest) pairs)
      (AllPairs-tail (λ p r. p ≢ r) x a.rest back_pairs)
      (λ p r here there. AllPairs-across (λ p r.
      p ≢ r) a.front (x ∷ a.rest) p r pairs here (Contains-later x a.rest r there))

  inside : (z : X) → Contains xs z → Contains (a.front ++ a.rest) z
  inside z there = elim (Contains-append_cases a.front (x ∷ a.rest) z
      (subst (λ (zs : List X). Contains zs z) a.parts (to z (Contains-later x xs z there)))) [
        | inl early ↦ Contains-append_left a.front a.rest z early
        | inr late ↦ elim (Contains-cons_cases x a.rest z late) [
          | inl same ↦ absurd (AllPairs-head (λ p r. p ≢ r) x xs z one there same)
          | inr later ↦ Contains-append_right a.front a.rest z later
        ]
      ]

  own : (z : X) → (x ≡ z → ⊥) → Contains (a.front ++ x ∷ a.rest) z → Contains xs z
  own z differs there =
      elim (Contains-cons_cases x xs z
      (from z (subst (λ (zs : List X). Contains zs z) (sym a.parts) there))) [
        | inl same ↦ absurd (differs same)
        | inr later ↦ later
      ]

  outside : (z : X) → Contains (a.front ++ a.rest) z → Contains xs z
  outside z there = elim (Contains-append_cases a.front a.rest z there) [
    | inl early ↦ own z (λ same. AllPairs-across (λ p r.
        p ≢ r) a.front (x ∷ a.rest) z x pairs early (Contains-first x a.rest) (sym same))
        (Contains-append_left a.front (x ∷ a.rest) z early)
    | inr late ↦ own z (λ same. AllPairs-head (λ p r. p ≢ r) x a.rest z back_pairs late same)
        (Contains-append_right a.front (x ∷ a.rest) z (Contains-later x a.rest z late))
  ]

  put_first : IsPermutation xs (a.front ++ a.rest) → IsPermutation (x ∷ xs) ys
  put_first inner =
      IsPermutation-trans (x ∷ xs) (x ∷ (a.front ++ a.rest)) ys
      (IsPermutation-cons x xs (a.front ++ a.rest) inner)
      (subst (IsPermutation (x ∷ (a.front ++ a.rest))) (sym a.parts)
      (IsPermutation-sym (a.front ++ x ∷ a.rest) (x ∷ (a.front ++ a.rest))
      (IsPermutation-middle a.front x a.rest)))

-- lists of the same different elements are arrangements of each other
pub arranged : {X : Type 0} (xs ys : List X) → AllPairs (λ p r. p ≢ r) xs
    → AllPairs (λ p r. p ≢ r) ys → ((x : X) → Contains xs x → Contains ys x)
    → ((x : X) → Contains ys x → Contains xs x) → IsPermutation xs ys
arranged [] [] one other to from = IsPermutation-refl []
arranged [] (y ∷ ys) one other to from = absurd (Contains-none y (from y (Contains-first y ys)))
arranged (x ∷ xs) ys one other to from =
    let a : Around ys x = around ys x (to x (Contains-first x xs)) in
    put_first x xs ys one other to from a
    (arranged xs (a.front ++ a.rest) (AllPairs-tail (λ p r. p ≢ r) x xs one)
    (without x xs ys one other to from a) (inside x xs ys one other to from a)
    (outside x xs ys one other to from a))
