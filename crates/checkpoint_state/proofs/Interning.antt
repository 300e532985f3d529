-- Antichains that go into a list one after another, and their numbers there.
use Rattle.std.proofs.Common.{◌≡◌, ℕ, zero, suc, ◌+◌, ◌<◌, ◌≤◌, Bool, cond, List, [], ◌∷◌, ◌++◌}
use Rattle.std.proofs.Common.{length, take, get_or, replicate, refl, sym, ◌∙◌, ap, subst, arith}
use Rattle.std.proofs.Common.{inl}
use Rattle.std.proofs.Common.{inr}
use Rattle.std.specs.Prelude.{◌⊎◌, ◌≢◌, All, Some, flat_map, map, slice_get}
use Rattle.std.specs.List.{Contains}
use Rattle.std.proofs.lemmas.Grind.{flat_map-append}
use Rattle.std.proofs.lemmas.List.{map-append, take_more, append-nil}
use Rattle.std.proofs.lemmas.List.Elements.{All-tail}
use Rattle.std.proofs.lemmas.Option.{slice_get-get_or, none-some}
use Rattle.list_lemmas.proofs.Elements.{Contains-none, Contains-at, Contains-cons_cases}
use Rattle.list_lemmas.proofs.Elements.{AllPairs-head, AllPairs-tail}
use Rattle.formula_store.specs.Interned.{interned, interned_all, AreDistinct}
use Rattle.formula_store.proofs.Antichains.{Tested, tested, interned-there}
use Rattle.formula_store.proofs.Lists.{Contains-interned}
use Rattle.answer_tables.specs.Lengths.{spread_out}
use Rattle.checkpoint_state.specs.Suspending.{number_in}

-- ---- what goes in

-- what is there already changes nothing
pub interned_same : (list : List (List ℕ)) (x : List ℕ) → Contains list x → interned list x ≡ list
interned_same list x there =
    interned-there x list there.0 (slice_get-get_or list there.0 x there.1 ∙ ap Some there.2)

pub interned_append : (list xs ys : List (List ℕ))
    → interned_all list (xs ++ ys) ≡ interned_all (interned_all list xs) ys
interned_append list [] ys = refl
interned_append list (x ∷ xs) ys = interned_append (interned list x) xs ys

again : (list : List (List ℕ)) (x : List ℕ) (n : ℕ)
    → interned_all (interned list x) (replicate n x) ≡ interned list x
again list x zero = refl
again list x (suc n) =
    ap (λ (l : List (List ℕ)). interned_all l (replicate n x))
    (interned_same (interned list x) x (Contains-interned list x))
    ∙ again list x n

-- so often the same is as once
pub interned_often : (list : List (List ℕ)) (x : List ℕ) (n : ℕ) → 1 ≤ n
    → interned_all list (replicate n x) ≡ interned list x
interned_often list x zero some = absurd (omega (arith, some))
interned_often list x (suc n) some = again list x n

pub interned_spread : (list : List (List ℕ)) (runs : List (ℕ × List ℕ)) → All (λ r. 1 ≤ r.0) runs
    → interned_all list (spread_out runs) ≡ interned_all list (map (λ r. r.1) runs)
interned_spread list [] some = refl
interned_spread list (r ∷ rs) some =
    interned_append list (replicate r.0 r.1) (spread_out rs)
    ∙ ap (λ (l : List (List ℕ)). interned_all l (spread_out rs))
    (interned_often list r.1 r.0 (some zero r (omega arith)))
    ∙ interned_spread (interned list r.1) rs (All-tail (λ (x : ℕ × List ℕ). 1 ≤ x.0) r rs some)

-- the step of a loop whose elements each have antichains that go in
pub interned_next : {A : Type 0} (f : A → List (List ℕ)) (start list new : List (List ℕ))
    (xs : List A) (i : ℕ) (x : A) → i < length xs → x ≡ get_or xs i x
    → list ≡ interned_all start (flat_map f (take i xs)) → new ≡ interned_all list (f x)
    → new ≡ interned_all start (flat_map f (take (i + 1) xs))
interned_next {A} f start list new xs i x within is before more =
    more ∙ ap (λ (l : List (List ℕ)). interned_all l (f x)) before
    ∙ sym (interned_append start (flat_map f (take i xs)) (f x))
    ∙ ap (interned_all start)
    (sym (flat_map-append f (take i xs) (x ∷ [])
    ∙ ap (λ (l : List (List ℕ)). flat_map f (take i xs) ++ l) (append-nil (f x))))
    ∙ sym (ap (λ (l : List A). interned_all start (flat_map f l))
    (take_more xs i x within ∙ ap (λ (y : A). take i xs ++ y ∷ []) (sym is)))

-- the same where each is one antichain
pub interned_one : {A : Type 0} (f : A → List ℕ) (start list new : List (List ℕ))
    (xs : List A) (i : ℕ) (x : A) → i < length xs → x ≡ get_or xs i x
    → list ≡ interned_all start (map f (take i xs)) → new ≡ interned list (f x)
    → new ≡ interned_all start (map f (take (i + 1) xs))
interned_one {A} f start list new xs i x within is before more =
    more ∙ ap (λ (l : List (List ℕ)). interned l (f x)) before
    ∙ sym (interned_append start (map f (take i xs)) (f x ∷ []))
    ∙ ap (interned_all start) (sym (map-append f (take i xs) (x ∷ [])))
    ∙ sym (ap (λ (l : List A). interned_all start (map f l))
    (take_more xs i x within ∙ ap (λ (y : A). take i xs ++ y ∷ []) (sym is)))

-- ---- numbers

number_first : (x : List ℕ) (list : List (List ℕ)) (sets : List ℕ) → Tested sets x
    → ((sets ≡ x) × (number_in (x ∷ list) sets ≡ 0))
    ⊎ ((¬ (sets ≡ x)) × (number_in (x ∷ list) sets ≡ suc (number_in list sets)))
number_first x list sets (inl is) =
    inl (is.1, ap (λ (b : Bool). cond b 0 (suc (number_in list sets))) is.0)
number_first x list sets (inr other) =
    inr (other.1, ap (λ (b : Bool). cond b 0 (suc (number_in list sets))) other.0)

-- a list that is there has its place as its number
pub number_there : (list : List (List ℕ)) (n : ℕ) (sets : List ℕ) → AreDistinct list
    → slice_get list n ≡ Some sets → number_in list sets ≡ n
number_there [] n sets distinct at = absurd (none-some sets at)
number_there (x ∷ list) zero sets distinct at =
    elim (number_first x list sets (tested sets x)) [
      | inl is ↦ is.1
      | inr other ↦ absurd (other.0 (let same : x ≡ sets = cc in sym same))
    ]
number_there (x ∷ list) (suc n) sets distinct at =
    go (number_there list n sets (AllPairs-tail (λ (a b : List ℕ). a ≢ b) x list distinct) at)
    (number_first x list sets (tested sets x))
  where
    go : number_in list sets ≡ n → ((sets ≡ x) × (number_in (x ∷ list) sets ≡ 0))
        ⊎ ((¬ (sets ≡ x)) × (number_in (x ∷ list) sets ≡ suc (number_in list sets)))
        → number_in (x ∷ list) sets ≡ suc n
    go rest (inl is) = absurd (AllPairs-head (λ (a b : List ℕ). a ≢ b) x list sets distinct
        (Contains-at list n sets at) (sym is.0))
    go rest (inr other) = other.1 ∙ ap suc rest

-- the list with the number of one that is there
pub number_found : (list : List (List ℕ)) (sets : List ℕ) → Contains list sets
    → (number_in list sets < length list) × (get_or list (number_in list sets) [] ≡ sets)
number_found [] sets there = absurd (Contains-none sets there)
number_found (x ∷ list) sets there =
    go (number_first x list sets (tested sets x)) (λ later. number_found list sets later)
  where
    Found : ℕ → Type 0
    Found n = (n < suc (length list)) × (get_or (x ∷ list) n [] ≡ sets)

    go : ((sets ≡ x) × (number_in (x ∷ list) sets ≡ 0))
        ⊎ ((¬ (sets ≡ x)) × (number_in (x ∷ list) sets ≡ suc (number_in list sets)))
        → (Contains list sets → (number_in list sets < length list)
        × (get_or list (number_in list sets) [] ≡ sets))
        → Found (number_in (x ∷ list) sets)
    go (inl is) rest = subst Found (sym is.1) (omega arith, sym is.0)
    go (inr other) rest =
        elim (Contains-cons_cases x list sets there) [
          | inl same ↦ absurd (other.0 (sym same))
          | inr later ↦ let found = rest later in
              subst Found (sym other.1) ((let less = found.0 in omega (arith, less)), found.1)
        ]

-- lists of one number are equal
pub number_tells : (list : List (List ℕ)) (one other : List ℕ) → Contains list one
    → Contains list other → number_in list one ≡ number_in list other → one ≡ other
number_tells list one other first second same =
    sym (number_found list one first).1
    ∙ ap (λ (n : ℕ). get_or list n []) same
    ∙ (number_found list other second).1
