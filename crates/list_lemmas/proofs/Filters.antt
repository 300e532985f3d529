-- What a sort, a `dedup` and a filter leave.
use Rattle.std.specs.Prelude.{◌≡◌, ℕ, List, [], ◌∷◌, Bool, true, false, cond, Contains, ◌↔◌, ◌⊎◌}
use Rattle.std.specs.Prelude.{refl, zero, suc, ◌+◌, ◌-◌, ◌<◌, length, take, drop, slice_index_or}
use Rattle.std.proofs.Common.{sym, ◌∙◌, ap, subst, inl, inr, arith, drop-cons, get_or}
use Rattle.std.specs.List.{dedup, filter}
use Rattle.std.specs.List.Retain.{IsFiltered, DiffersFromLast}
use Rattle.std.specs.List.Sorted.{IsSorted, IsStrictlySortedBy, IsPermutation}
use Rattle.std.specs.Cmp.{IsTotalOrder, IsEquivalence}
use Rattle.std.specs.Ordering.{is_lt, ordering_reverse, eq_by_cmp}
use Rattle.std.specs.declared.cmp.Ordering.{Ordering}
use Rattle.std.specs.declared.cmp.Ordering.TheVariants.{Less}
use Rattle.std.proofs.lemmas.List.Filters.{dedup_is}
use Rattle.std.proofs.lemmas.List.Kept.{Contains-dedup, Contains-from_dedup}
use Rattle.std.proofs.lemmas.List.Kept.{IsStrictlySortedBy-dedup}
use Rattle.std.proofs.lemmas.Map.Keys.{sorted_tail}
use Rattle.std.proofs.lemmas.Map.Views.{All-after_first}
use Rattle.std.proofs.lemmas.List.Sorted.{Contains-permutation, IsPermutation-sym}
use Rattle.list_lemmas.proofs.Elements.{Contains-none, Contains-first, Contains-later}
use Rattle.list_lemmas.proofs.Elements.{Contains-cons_cases, Contains-single}

-- a sorted list without repeats rises
pub rising_from_dedup :
    {X : Type 0} {R : X → X → Ordering} (o : IsTotalOrder R) {E : X → X → Bool} (ties : (x y : X)
    → E x y ≡ eq_by_cmp R x y)
    (xs ys : List X) → IsSorted R xs → IsFiltered (DiffersFromLast E) [] xs ys
    → IsStrictlySortedBy R ys
rising_from_dedup {R = R} o {E = E} ties xs ys up kept =
    subst (λ zs. IsStrictlySortedBy R zs) (sym (dedup_is E xs ys kept))
    (IsStrictlySortedBy-dedup o ties xs up)

-- and has the elements of the list that was sorted
pub members_of_dedup :
    {X : Type 0} {E : X → X → Bool} (e : IsEquivalence E) (same : (x y : X) → E x y ≡ true → x ≡ y)
    (ws xs ys : List X) → IsPermutation ws xs → IsFiltered (DiffersFromLast E) [] xs ys → (f : X)
    → Contains ys f ↔ Contains ws f
members_of_dedup {X} {E = E} e same ws xs ys p kept f =
    let P : List X → Type 0 = λ zs. Contains zs f in
    let is : ys ≡ dedup E xs = dedup_is E xs ys kept in (
      (λ m. Contains-permutation xs ws f (IsPermutation-sym ws xs p)
          (Contains-from_dedup E xs f (subst P is m))),
      (λ m. subst P (sym is) (Contains-dedup e same xs f (Contains-permutation ws xs f p m))),
    )

module _ {X : Type 0} where
  filter_at : (b : Bool) (y x : X) (zs : List X) → Contains (cond b (y ∷ zs) zs) x
      → ((b ≡ true) × (y ≡ x)) ⊎ Contains zs x
  filter_at true y x zs h = elim (Contains-cons_cases y zs x h) [
    | inl e ↦ inl (refl, e)
    | inr m ↦
        inr m
  ]
  filter_at false y x zs h = inr h

  filter_first : (b : Bool) (y : X) (zs : List X) → b ≡ true → Contains (cond b (y ∷ zs) zs) y
  filter_first true y zs h = Contains-first y zs
  filter_first false y zs h = cc

  filter_keeps : (b : Bool) (y x : X) (zs : List X) → Contains zs x
      → Contains (cond b (y ∷ zs) zs) x
  filter_keeps true y x zs m = Contains-later y zs x m
  filter_keeps false y x zs m = m

  -- what a filter keeps
  passes_from_filter : (p : X → Bool) (xs : List X) (x : X) → Contains (filter p xs) x
      → Contains xs x × (p x ≡ true)
  passes_from_filter p [] x m = absurd (Contains-none x m)
  passes_from_filter p (y ∷ ys) x m = elim (filter_at (p y) y x (filter p ys) m) [
    | inl h ↦ (subst (Contains (y ∷ ys)) h.1 (Contains-first y ys), sym (ap p h.1) ∙ h.0)
    | inr k ↦ let r = passes_from_filter p ys x k in (Contains-later y ys x r.0, r.1)
  ]

  kept_by_filter : (p : X → Bool) (xs : List X) (x : X) → Contains xs x → p x ≡ true
      → Contains (filter p xs) x
  kept_by_filter p [] x m t = absurd (Contains-none x m)
  kept_by_filter p (y ∷ ys) x m t = elim (Contains-cons_cases y ys x m) [
    | inl e ↦ subst (Contains (filter p (y ∷ ys))) e
        (filter_first (p y) y (filter p ys) (ap p e ∙ t))
    | inr k ↦ filter_keeps (p y) y x (filter p ys) (kept_by_filter p ys x k t)
  ]

  -- a filter keeps exactly the elements that pass
  pub Contains-filter : (p : X → Bool) (xs : List X) (x : X)
      → Contains (filter p xs) x ↔ (Contains xs x × (p x ≡ true))
  Contains-filter p xs x = (passes_from_filter p xs x, λ m. kept_by_filter p xs x m.0 m.1)

  -- lists with the same elements keep the same ones
  pub filter_members : (p : X → Bool) (xs ys : List X) → ((f : X) → Contains xs f ↔ Contains ys f)
      → (f : X) → Contains (filter p xs) f ↔ Contains (filter p ys) f
  filter_members p xs ys same f = (
    (λ m. let r = (Contains-filter p xs f).0 m in (Contains-filter p ys f).1 ((same f).0 r.0, r.1)),
    (λ m. let r = (Contains-filter p ys f).0 m in (Contains-filter p xs f).1 ((same f).1 r.0, r.1)),
  )

  -- the part of one element
  pub one_at : (xs : List X) (i : ℕ) (x f : X) → i < length xs → slice_index_or xs i x ≡ x
      → Contains (take (i + 1 - i) (drop i xs)) f ↔ (Contains xs f × (f ≡ x))
  one_at xs i x f lt e =
      let n : i + 1 - i ≡ 1 = omega arith in
      let part : take (i + 1 - i) (drop i xs) ≡ x ∷ [] =
      rw n (rw (drop-cons xs i x lt) (ap (λ y. y ∷ []) e)) in
      let P : List X → Type 0 = λ ys. Contains ys f in (
        (λ h. let s : x ≡ f = Contains-single x f (subst P part h) in
            (subst (λ y. Contains xs y) s (i, lt, e), sym s)),
        (λ h. subst P (sym part) (subst (Contains (x ∷ [])) (sym h.1) (Contains-first x []))),
      )

-- a strictly rising list is sorted
pub sorted_from_strict : {K : Type 0} {R : K → K → Ordering} (o : IsTotalOrder R) (xs : List K)
    → IsStrictlySortedBy R xs → IsSorted R xs
sorted_from_strict o [] h k d lo hi = absurd (omega arith)
sorted_from_strict {R = R} o (x ∷ xs) h zero d lo hi =
    let less : R x (get_or xs 0 d) ≡ Less = All-after_first R x xs h 0 d (omega arith) in
    ap is_lt (o.antisymm (get_or xs 0 d) x ∙ ap ordering_reverse less)
sorted_from_strict {R = R} o (x ∷ xs) h (suc k) d lo hi =
    let P : ℕ → Type 0 = λ n. is_lt (R (get_or (x ∷ xs) n d) (get_or xs k d)) ≡ false in
    let e : suc (k + 1) ≡ suc k + 1 = omega arith in
    subst P e (sorted_from_strict o xs (sorted_tail R x xs h) k d (omega arith) (omega arith))
