-- Lists of distinct elements are no longer than the lists that have these.
use Rattle.std.proofs.Common.{◌≡◌, ◌+◌, ◌≤◌, List, [], ◌∷◌, ◌++◌, length, ap, subst, arith, inl}
use Rattle.std.proofs.Common.{inr, ◌∙◌, length-append}
use Rattle.std.specs.Prelude.{◌≢◌}
use Rattle.std.specs.List.{AllPairs, Contains}
use Rattle.std.proofs.lemmas.List.Elements.{Contains-append_left, Contains-append_right}
use Rattle.std.proofs.lemmas.List.Elements.{Contains-append_cases}
use Rattle.list_lemmas.proofs.Elements.{Contains-none, Contains-first, Contains-later}
use Rattle.list_lemmas.proofs.Elements.{Contains-cons_cases, AllPairs-tail, AllPairs-head}

-- a list is what stands before an element of it, the element, and what stands behind it
pub parts_around : {X : Type 0} (xs : List X) (x : X) → Contains xs x
    → (front : List X) × (back : List X) × (xs ≡ front ++ x ∷ back)
parts_around {X = X} [] x there = absurd (Contains-none x there)
parts_around {X = X} (y ∷ xs) x there =
    elim (Contains-cons_cases y xs x there) [
      | inl same ↦ ([], xs, ap (λ z. z ∷ xs) same)
      | inr later ↦ (let found : (front : List X) × (back : List X) × (xs ≡ front ++ x ∷ back) =
          parts_around xs x later in (y ∷ found.0, found.1, ap (λ zs. y ∷ zs) found.2))
    ]

-- different elements that another list contains are no more than that has
pub distinct_is_no_longer : {X : Type 0} (xs ys : List X) → AllPairs (λ p q. p ≢ q) xs
    → ((q : X) → Contains xs q → Contains ys q) → length xs ≤ length ys
distinct_is_no_longer {X = X} [] ys distinct inside = omega arith
distinct_is_no_longer {X = X} (x ∷ xs) ys distinct inside =
    let parts : (front : List X) × (back : List X) × (ys ≡ front ++ x ∷ back) =
    parts_around ys x (inside x (Contains-first x xs)) in
    let less : length xs ≤ length (parts.0 ++ parts.1) =
    distinct_is_no_longer xs (parts.0 ++ parts.1) (AllPairs-tail (λ p q. p ≢ q) x xs distinct)
    (λ q there. others x xs parts.0 parts.1 q
    (AllPairs-head (λ p r. p ≢ r) x xs q distinct there)
    (subst (λ (zs : List X). Contains zs q) parts.2
    (inside q (Contains-later x xs q there)))) in
    let whole : length ys ≡ length parts.0 + length (x ∷ parts.1) =
    ap length parts.2 ∙ length-append parts.0 (x ∷ parts.1) in
    let rest : length (parts.0 ++ parts.1) ≡ length parts.0 + length parts.1 =
    length-append parts.0 parts.1 in
    omega arith
  where
    others : (x : X) (xs front back : List X) (q : X) → x ≢ q → Contains (front ++ x ∷ back) q
        → Contains (front ++ back) q
    others x xs front back q different there =
        elim (Contains-append_cases front (x ∷ back) q there) [
          | inl early ↦ Contains-append_left front back q early
          | inr late ↦ elim (Contains-cons_cases x back q late) [
            | inl same ↦ absurd (different same)
            | inr later ↦ Contains-append_right front back q later
          ]
        ]
