-- Sums over lists of distinct elements, bounded by the weights of their keys.
use Rattle.std.proofs.Common.{◌≡◌, ℕ, zero, suc, ◌+◌, ◌*◌, ◌<◌, ◌≤◌, List, [], ◌∷◌, ◌++◌, length}
use Rattle.std.proofs.Common.{map, refl, sym, ◌∙◌, ap, subst, inl, inr, arith, length-append}
use Rattle.std.specs.Prelude.{◌⊎◌, ◌≢◌}
use Rattle.std.specs.List.{All, AllPairs, Contains, sum_by}
use Rattle.std.proofs.lemmas.Bool.{cases_lt}
use Rattle.std.proofs.lemmas.List.{length-map}
use Rattle.std.proofs.lemmas.List.Elements.{All-head, All-tail, All-weaker, Contains-append_left}
use Rattle.std.proofs.lemmas.List.Elements.{Contains-append_right}
use Rattle.std.proofs.lemmas.List.Sums.{sum_by-cons}
use Rattle.list_lemmas.proofs.Elements.{All-from_contains, Contains-none, Contains-first}
use Rattle.list_lemmas.proofs.Elements.{Contains-later, Contains-cons_cases, AllPairs-head}
use Rattle.list_lemmas.proofs.Elements.{AllPairs-first, AllPairs-tail}
use Rattle.list_lemmas.proofs.Maps.{Contains-map}

-- the list without one of its elements
pub record Without (X : Type 0) (f : X → ℕ) (x : X) (ys : List X) : Type 0 where
  pub rest : List X
  pub total : sum_by f ys ≡ f x + sum_by f rest
  pub others : (z : X) → Contains ys z → (x ≡ z) ⊎ Contains rest z

pub without : (X : Type 0) (f : X → ℕ) (x : X) (ys : List X) → Contains ys x → Without X f x ys
without X f x [] there = absurd (Contains-none x there)
without X f x (y ∷ ys) (zero, below, is) = record {
  rest = ys;
  total = sum_by-cons f y ys ∙ ap (λ (z : X). f z + sum_by f ys) is;
  others = λ z there. elim (Contains-cons_cases y ys z there) [
    | inl same ↦
        inl (sym is ∙ same)
    | inr later ↦ inr later
  ];
}
without X f x (y ∷ ys) (suc k, below, is) =
    let found : Without X f x ys = without X f x ys (k, omega arith, is) in
    record {
      rest = y ∷ found.rest;
      total = omega (arith, sum_by-cons f y ys, sum_by-cons f y found.rest, found.total);
      others = λ z there. elim (Contains-cons_cases y ys z there) [
        | inl same ↦ inr (subst (Contains (y ∷ found.rest)) same (Contains-first y found.rest))
        | inr later ↦ elim (found.others z later) [
          | inl same ↦ inl same
          | inr rest ↦
              inr (Contains-later y found.rest z rest)
        ]
      ];
    }

-- where each key is of one element at most, and an element weighs no more than its key: distinct
-- elements, each of which weighs nothing or has a key in the list, weigh no more than the keys
module _ (X K : Type 0) (f : X → ℕ) (g : K → ℕ) (IsOf : K → X → Type 0) (one : (k : K) (x y : X)
    → IsOf k x → IsOf k y → x ≡ y) (light : (k : K) (x : X) → IsOf k x → f x ≤ g k) where
  abbrev HasKey : List K → X → Type 0
  HasKey keys x = (f x ≡ 0) ⊎ ((k : K) × Contains keys k × IsOf k x)

  -- the other elements have their keys among the rest
  others_keyed : (x : X) (xs : List X) (k : K) (keys : List K) (found : Without K g k keys)
      → AllPairs (λ x y. x ≢ y) (x ∷ xs) → IsOf k x
      → ((y : X) → Contains (x ∷ xs) y → HasKey keys y) → (y : X) → Contains xs y
      → HasKey found.rest y
  others_keyed x xs k keys found distinct is keyed y later =
      by (keyed y (Contains-later x xs y later))
    where
      by : HasKey keys y → HasKey found.rest y
      by (inl nothing) = inl nothing
      by (inr (l, at, of)) = elim (found.others l at) [
        | inl same ↦ absurd (AllPairs-head (λ x y.
            x ≢ y) x xs y distinct later (one k x y is (subst (λ (m : K). IsOf m y) (sym same) of)))
        | inr rest ↦ inr (l, rest, of)
      ]

  pub weight-le : (xs : List X) (keys : List K) → AllPairs (λ x y. x ≢ y) xs
      → ((x : X) → Contains xs x → HasKey keys x) → sum_by f xs ≤ sum_by g keys
  weight-le [] keys distinct keyed = omega arith
  weight-le (x ∷ xs) keys distinct keyed = by (weight-le xs) (keyed x (Contains-first x xs))
    where
      tail : AllPairs (λ x y. x ≢ y) xs
      tail = AllPairs-tail (λ x y. x ≢ y) x xs distinct

      by : ((ks : List K) → AllPairs (λ x y. x ≢ y) xs → ((y : X) → Contains xs y → HasKey ks y)
          → sum_by f xs ≤ sum_by g ks) → HasKey keys x → sum_by f (x ∷ xs) ≤ sum_by g keys
      by rest (inl nothing) =
          omega (
            arith,
            sum_by-cons f x xs,
            nothing,
            rest keys tail (λ y there.
                keyed y (Contains-later x xs y there)),
          )
      by rest (inr (k, there, is)) =
          let found : Without K g k keys = without K g k keys there in
          omega (
            arith,
            sum_by-cons f x xs,
            found.total,
            light k x is,
            rest found.rest tail
                (others_keyed x xs k keys found distinct is keyed),
          )

-- rising numbers from the first bound up to the second
rising_from : (low high : ℕ) (sets : List ℕ) → low ≤ high → AllPairs (λ v w. v < w) sets
    → All (λ v. low ≤ v) sets → All (λ v. v < high) sets → length sets + low ≤ high
rising_from low high [] order rising above below = omega arith
rising_from low high (v ∷ sets) order rising above below =
    let first : low ≤ v = All-head (λ w. low ≤ w) v sets above in
    let last : v < high = All-head (λ w. w < high) v sets below in
    omega (
      arith,
      first,
      rising_from (v + 1) high sets (omega arith) (AllPairs-tail (λ v w. v < w) v sets rising)
          (All-weaker (λ w. v < w) (λ w. v + 1 ≤ w) (λ w less.
          omega arith) sets (AllPairs-first (λ v w. v < w) v sets rising))
          (All-tail (λ w. w < high) v sets below),
    )

-- rising numbers below a bound are no more than it
pub rising-le : (high : ℕ) (sets : List ℕ) → AllPairs (λ v w. v < w) sets
    → ((v : ℕ) → Contains sets v → v < high) → length sets ≤ high
rising-le high sets rising below =
    omega (
      arith,
      rising_from 0 high sets (omega arith) rising
          (All-from_contains (λ v. 0 ≤ v) sets (λ v there. omega arith))
          (All-from_contains (λ v. v < high) sets below),
    )

-- the numbers below a bound
abbrev pub numbers : ℕ → List ℕ
numbers zero = []
numbers (suc n) = n ∷ numbers n

pub length-numbers : (n : ℕ) → length (numbers n) ≡ n
length-numbers zero = refl
length-numbers (suc n) = ap suc (length-numbers n)

pub numbers-contain : (n k : ℕ) → k < n → Contains (numbers n) k
numbers-contain zero k below = absurd (omega arith)
numbers-contain (suc n) k below = elim (cases_lt k n) [
  | inl less ↦ Contains-later n (numbers n) k (numbers-contain n k less)
  | inr more ↦ let same : n ≡ k = omega arith in
      subst (Contains (n ∷ numbers n)) same (Contains-first n (numbers n))
]

-- each pair of an element of the one list and one of the other
abbrev pub pairs : {X Y : Type 0} → List X → List Y → List (X × Y)
pairs [] ys = []
pairs (x ∷ xs) ys = map (λ y. (x, y)) ys ++ pairs xs ys

pub length-pairs : {X Y : Type 0} (xs : List X) (ys : List Y)
    → length (pairs xs ys) ≡ length xs * length ys
length-pairs [] ys = omega arith
length-pairs {X} {Y} (x ∷ xs) ys =
    omega (
      arith,
      length-append {A = X
          × Y} (map (λ (y : Y). (x, y)) ys) (pairs xs ys),
      length-map {B =
          X × Y} ys (λ (y : Y). (x, y)),
      length-pairs xs ys,
    )

pub pairs-contain : {X Y : Type 0} (xs : List X) (ys : List Y) (pair : X × Y) → Contains xs pair.0
    → Contains ys pair.1 → Contains (pairs xs ys) pair
pairs-contain [] ys pair here there = absurd (Contains-none pair.0 here)
pairs-contain {X} {Y} (z ∷ xs) ys pair here there = elim (Contains-cons_cases z xs pair.0 here) [
  | inl same ↦ Contains-append_left (with_first z) (pairs xs ys) pair
      (subst (λ (v : X). Contains (with_first z) (v, pair.1)) same
      (Contains-map (λ (w : Y). (z, w)) ys pair.1 there))
  | inr later ↦ Contains-append_right (with_first z) (pairs xs ys) pair
      (pairs-contain xs ys pair later there)
]
  where
    with_first : X → List (X × Y)
    with_first v = map (λ (w : Y). (v, w)) ys

-- elements that weigh the same
pub sum_by-same : {X : Type 0} (f : X → ℕ) (weight : ℕ) (xs : List X)
    → ((x : X) → Contains xs x → f x ≡ weight) → sum_by f xs ≡ length xs * weight
sum_by-same f weight [] each = omega arith
sum_by-same f weight (x ∷ xs) each =
    omega (
      arith,
      sum_by-cons f x xs,
      each x (Contains-first x xs),
      sum_by-same f weight xs
          (λ y there. each y (Contains-later x xs y there)),
    )
