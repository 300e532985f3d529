-- The tuples of a table are listed, and nothing else is.
use Rattle.std.proofs.Common.{◌≡◌, ℕ, zero, suc, ◌<◌, ◌≤◌, List, [], ◌∷◌, refl}
use Rattle.std.proofs.Common.{ap, subst, arith, inl, inr}
use Rattle.std.specs.Prelude.{◌⊎◌, map}
use Rattle.std.specs.List.{AllZip, Contains}
use Rattle.std.proofs.lemmas.Bool.{cases_lt}
use Rattle.std.proofs.lemmas.List.Elements.{All-cons, All-head, All-nil, All-tail}
use Rattle.std.proofs.lemmas.List.Elements.{Contains-append_cases, Contains-append_left}
use Rattle.std.proofs.lemmas.List.Elements.{Contains-append_right}
use Rattle.list_lemmas.proofs.Elements.{Contains-first, Contains-later, Contains-none}
use Rattle.list_lemmas.proofs.Maps.{Contains-from_map, Contains-map}
use Rattle.dl_syntax.specs.declared.names.IndId.{IndId}
use Rattle.answer_tables.specs.Tuples.{IsTuple, tuples, with_first}

abbrev put : ℕ → List IndId → List IndId
put n rest = (record { 0 = n }) ∷ rest

first_all : (n : ℕ) (rests : List (List IndId)) (i : IndId) (t : List IndId) → i.0 < n
    → Contains rests t → Contains (with_first n rests) (i ∷ t)
first_all zero rests i t less there = absurd (omega (arith, less))
first_all (suc n) rests i t less there =
    go (cases_lt i.0 n) (λ early. first_all n rests i t early there)
  where
    go : (i.0 < n) ⊎ (n ≤ i.0) → (i.0 < n → Contains (with_first n rests) (i ∷ t))
        → Contains (with_first (suc n) rests) (i ∷ t)
    go (inl early) rest = Contains-append_left (with_first n rests) (map (put n) rests) (i ∷ t)
        (rest early)
    go (inr late) rest =
        let same : n ≡ i.0 = omega (arith, late, less) in
        Contains-append_right (with_first n rests) (map (put n) rests) (i ∷ t)
        (subst (λ (x : List IndId). Contains (map (put n) rests) x)
        (ap (λ (m : ℕ). put m t) same) (Contains-map (put n) rests t there))

pub tuples_all : (slots arity : ℕ) (tuple : List IndId) → IsTuple slots arity tuple
    → Contains (tuples slots arity) tuple
tuples_all slots zero [] is = (zero, omega arith, refl)
tuples_all slots zero (i ∷ tuple) is = absurd (omega (arith, is.0))
tuples_all slots (suc arity) [] is = absurd (omega (arith, is.0))
tuples_all slots (suc arity) (i ∷ tuple) is =
    first_all slots (tuples slots arity) i tuple
    (All-head (λ (j : IndId). j.0 < slots) i tuple is.1)
    (tuples_all slots arity tuple
    (omega (arith, is.0), All-tail (λ (j : IndId). j.0 < slots) i tuple is.1))

first_only : (n : ℕ) (rests : List (List IndId)) (t : List IndId)
    → Contains (with_first n rests) t → (i : IndId) × (i.0 < n)
    × ((rest : List IndId) × Contains rests rest × (i ∷ rest ≡ t))
first_only zero rests t there = absurd (Contains-none t there)
first_only (suc n) rests t there =
    go (Contains-append_cases (with_first n rests) (map (put n) rests) t there) (λ early.
    first_only n rests t early)
  where
    go : Contains (with_first n rests) t ⊎ Contains (map (put n) rests) t
        → (Contains (with_first n rests) t → (i : IndId) × (i.0 < n)
        × ((rest : List IndId) × Contains rests rest × (i ∷ rest ≡ t)))
        → (i : IndId) × (i.0 < suc n) × ((rest : List IndId) × Contains rests rest × (i ∷ rest ≡ t))
    go (inl early) rest = let found = rest early in
        (found.0, (let less = found.1 in omega (arith, less)), found.2)
    go (inr late) rest = let found = Contains-from_map (put n) rests t late in
        (record { 0 = n }, omega arith, (found.0, found.1, found.2))

pub tuples_only : (slots arity : ℕ) (tuple : List IndId) → Contains (tuples slots arity) tuple
    → IsTuple slots arity tuple
tuples_only slots zero tuple (zero, within, is) =
    subst (IsTuple slots zero) is (refl, All-nil (λ (i : IndId). i.0 < slots))
tuples_only slots zero tuple (suc k, within, is) = absurd (omega (arith, within))
tuples_only slots (suc arity) tuple there =
    let found = first_only slots (tuples slots arity) tuple there in
    let rest = tuples_only slots arity found.2.0 found.2.1 in
    subst (IsTuple slots (suc arity)) found.2.2
    (ap suc rest.0, All-cons (λ (i : IndId). i.0 < slots) found.0 found.2.0 found.1 rest.1)

-- ---- lists that stand beside their images

module _ {X Y Z : Type 0} (R : X → Z → Type 0) (f : X → Y) (g : Y → Z) where
  pub zipped_images : (xs : List X) → ((x : X) → Contains xs x → R x (g (f x)))
      → AllZip R xs (map g (map f xs))
  zipped_images [] each = tt
  zipped_images (x ∷ xs) each = (
    each x (Contains-first x xs),
    zipped_images xs (λ y there. each y (Contains-later x xs y there)),
  )

  pub image_of : (xs : List X) → AllZip R xs (map g (map f xs)) → (x : X) → Contains xs x
      → R x (g (f x))
  image_of [] zipped x there = absurd (Contains-none x there)
  image_of (y ∷ xs) zipped x (zero, within, is) =
      subst (λ (z : X). R z (g (f z))) is zipped.0
  image_of (y ∷ xs) zipped x (suc k, within, is) =
      image_of xs zipped.1 x (k, omega (arith, within), is)
