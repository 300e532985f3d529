-- Runs of elements in sorted lists.
use Rattle.std.specs.Prelude.{◌≡◌, ℕ, ◌<◌, ◌≤◌, ◌+◌, ◌-◌, List, [], ◌∷◌, length, take, drop, refl}
use Rattle.std.specs.Prelude.{Bool, true, false, zero, suc, slice_index_or}
use Rattle.std.specs.List.{filter, AllWithin, All, HoldsAt, Contains}
use Rattle.std.specs.Prelude.{Result, Ok, Err, IfOk, IsTrue, is_ok, ◌↔◌}
use Rattle.std.proofs.lemmas.Bool.{cases_lt}
use Rattle.std.proofs.Math.Seq.{take-length}
use Rattle.std.proofs.lemmas.Cmp.{tied_itself}
use Rattle.std.proofs.lemmas.Map.Lookups.{CmpEqualImpliesEq}
use Rattle.std.proofs.lemmas.List.Elements.{filter_passes}
use Rattle.std.proofs.lemmas.List.Kept.{IsSortedBy-filter}
use Rattle.std.specs.List.Sorted.{IsSortedBy, IsSortedByKey, IsSorted, IsPartitionedBy}
use Rattle.std.specs.List.Sorted.{IsPartitionPoint, IsSearchInRange, IsBinarySearchResult}
use Rattle.std.specs.Cmp.{IsTotalOrder}
use Rattle.std.specs.Ordering.{is_lt, is_eq, ordering_reverse}
use Rattle.std.specs.declared.cmp.Ordering.TheVariants.{Less, Equal, Greater}
use Rattle.std.specs.declared.cmp.Ordering.{Ordering}
use Rattle.std.proofs.Common.{sym, ◌∙◌, ap, subst, inl, inr, arith, get_or-drop, length-drop}
use Rattle.std.proofs.lemmas.List.Sorted.{sorted_far, ranks_by, searchable_from_sorted}

equal_of : (a : Ordering) → is_eq a ≡ true → a ≡ Equal
equal_of Less h = cc
equal_of Equal h = refl
equal_of Greater h = cc

below_not_equal : (a : Ordering) → is_lt a ≡ true → is_eq a ≡ false
below_not_equal Less h = refl
below_not_equal Equal h = cc
below_not_equal Greater h = refl

between : (a : Ordering) → is_lt a ≡ false → is_lt (ordering_reverse a) ≡ false → is_eq a ≡ true
between Less b h = cc
between Equal b h = refl
between Greater b h = cc

module _ {X K : Type 0} {R : K → K → Ordering} (o : IsTotalOrder R) (g : X
    → K) (xs : List X) (up : IsSortedByKey g R xs) where
  far : (i j : ℕ) (d : X) → i ≤ j → j < length xs
      → is_lt (R (g (slice_index_or xs j d)) (g (slice_index_or xs i d))) ≡ false
  far = sorted_far (λ x y. is_lt (R (g x) (g y))) (ranks_by o g) xs up

  -- a test that goes down the order passes a prefix
  pub partitioned : (before : X → Bool)
      → ((x y : X) → is_lt (R (g y) (g x)) ≡ false → before y ≡ true → before x ≡ true)
      → IsPartitionedBy before xs
  partitioned before down i j d le lt b =
      down (slice_index_or xs i d) (slice_index_or xs j d) (far i j d le lt) b

  -- one that goes down the order among the rest passes a prefix of the rest
  pub rest_partitioned :
      (before of : X → Bool) (start : ℕ)
      → AllWithin (λ y. before y ≡ false) xs start (length xs)
      → ((x y : X) → is_lt (R (g y) (g x)) ≡ false → before x ≡ false → of y ≡ true → of x ≡ true)
      → IsPartitionedBy of (drop start xs)
  rest_partitioned before of start rest down i j d le lt b =
      let within : j < length xs - start = rw length-drop at lt in
      let P : X → Type 0 = λ x. of x ≡ true in
      let b' : of (slice_index_or xs (start + j) d) ≡ true = subst P (get_or-drop start xs j d) b in
      subst P (sym (get_or-drop start xs i d))
      (down (slice_index_or xs (start + i) d) (slice_index_or xs (start + j) d)
      (far (start + i) (start + j) d (omega arith) (omega arith))
      (rest (start + i) d (omega arith) (omega arith)) b')

module _ {X : Type 0} where
  -- where the elements below n pass and the others don't, those that pass are the first n
  filter_prefix : (of : X → Bool) (xs : List X) (n : ℕ)
      → IsPartitionPoint (λ y. of y ≡ true) (λ y. of y ≡ false) xs n → filter of xs ≡ take n xs
  filter_prefix of [] zero p = refl
  filter_prefix of [] (suc n) p = refl
  filter_prefix of (x ∷ xs) zero p =
      let h : of x ≡ false = p.1 0 x (omega arith) (omega arith) in
      rw h (filter_prefix of xs zero (
        (λ k d lo hi. absurd (omega arith)),
        (λ k d lo hi.
            p.1 (suc k) d (omega arith) (omega arith)),
      ))
  filter_prefix of (x ∷ xs) (suc n) p =
      let h : of x ≡ true = p.0 0 x (omega arith) (omega arith) in
      rw h (ap (λ ys. x ∷ ys) (filter_prefix of xs n (
        (λ k d lo hi. p.0 (suc k) d (omega arith) (omega arith)),
        (λ k d lo hi.
            p.1 (suc k) d (omega arith) (omega arith)),
      )))

  -- those that come before can be left out
  filter_skip : (before of : X → Bool) (xs : List X) (n : ℕ)
      → AllWithin (λ y. before y ≡ true) xs 0 n → ((x : X) → before x ≡ true → of x ≡ false)
      → n ≤ length xs → filter of xs ≡ filter of (drop n xs)
  filter_skip before of xs zero front apart le = refl
  filter_skip before of [] (suc n) front apart le = refl
  filter_skip before of (x ∷ xs) (suc n) front apart le =
      let h : of x ≡ false = apart x (front 0 x (omega arith) (omega arith)) in
      rw h (filter_skip before of xs n (λ k d lo hi.
      front (suc k) d (omega arith) (omega arith)) apart (omega arith))

  -- the run that two searches find
  pub filter_run :
      (before of : X → Bool) (xs : List X) (start count : ℕ)
      → start ≤ length xs
      → IsPartitionPoint (λ y. before y ≡ true) (λ y. before y ≡ false) xs start
      → IsPartitionPoint (λ y. of y ≡ true) (λ y. of y ≡ false) (drop start xs) count
      → ((x : X) → before x ≡ true → of x ≡ false)
      → take count (drop start xs) ≡ filter of xs
  filter_run before of xs start count le front run apart =
      sym (filter_skip before of xs start front.0 apart le ∙ filter_prefix of (drop start xs) count
      run)

-- the two tests of a run by a key
module _ {X K : Type 0} {R : K → K → Ordering} (o : IsTotalOrder R) (g : X → K) (t : K) where
  pub key_before_down : (x y : X) → is_lt (R (g y) (g x)) ≡ false → is_lt (R (g y) t) ≡ true
      → is_lt (R (g x) t) ≡ true
  key_before_down x y le b =
      elim (is_lt (R (g x) t)) as (λ v. is_lt (R (g x) t) ≡ v → v ≡ true) [
        | true ↦ λ e. refl
        | false ↦ λ e. let h : is_lt (R (g y) t) ≡ false =
            (ranks_by o (λ k. k)).chain (g y) (g x) t le e in cc
      ] refl

  pub key_of_down : (x y : X) → is_lt (R (g y) (g x)) ≡ false → is_lt (R (g x) t) ≡ false
      → is_eq (R (g y) t) ≡ true → is_eq (R (g x) t) ≡ true
  key_of_down x y le b e =
      let same : R (g y) (g x) ≡ R t (g x) = o.congr (g y) t (g x) (equal_of (R (g y) t) e) in
      let turned : R t (g x) ≡ ordering_reverse (R (g x) t) = o.antisymm t (g x) in
      between (R (g x) t) b (sym (ap is_lt (same ∙ turned)) ∙ le)

  pub key_apart : (x : X) → is_lt (R (g x) t) ≡ true → is_eq (R (g x) t) ≡ false
  key_apart x b = below_not_equal (R (g x) t) b

-- the run that two searches by closures find, and its order by another test
module _ {X K : Type 0} {R : K → K → Ordering} (o : IsTotalOrder R) (g : X
    → K) (xs : List X) (up : IsSortedByKey g R xs) where
  pub run_is :
      (before of : X → Bool) (start count : ℕ)
      → ((x y : X) → is_lt (R (g y) (g x)) ≡ false → before y ≡ true → before x ≡ true)
      → ((x y : X) → is_lt (R (g y) (g x)) ≡ false → before x ≡ false → of y ≡ true → of x ≡ true)
      → ((x : X) → before x ≡ true → of x ≡ false)
      → start ≤ length xs
      → (IsPartitionedBy before xs
      → IsPartitionPoint (λ y. before y ≡ true) (λ y. before y ≡ false) xs start)
      → (IsPartitionedBy of (drop start xs)
      → IsPartitionPoint (λ y. of y ≡ true) (λ y. of y ≡ false) (drop start xs) count)
      → take count (drop start xs) ≡ filter of xs
  run_is before of start count down down_of apart le first second =
      let front = first (partitioned o g xs up before down) in
      filter_run before of xs start count le front
      (second (rest_partitioned o g xs up before of start front.1 down_of)) apart

  pub filter_ordered :
      (of : X → Bool) (lt : X → X → Bool)
      → ((x y : X) → of x ≡ true → of y ≡ true → is_lt (R (g y) (g x)) ≡ false → lt y x ≡ false)
      → IsSortedBy lt (filter of xs)
  filter_ordered of lt h k d lo hi =
      let passes = filter_passes of xs in
      h (slice_index_or (filter of xs) k d) (slice_index_or (filter of xs) (k + 1) d)
      (passes k d (omega arith)) (passes (k + 1) d hi)
      (IsSortedBy-filter (λ x y. is_lt (R (g x) (g y))) (ranks_by o g) of xs up k d lo hi)

module _ {X : Type 0} where
  filter_all : (of : X → Bool) (ys : List X) → All (λ y. of y ≡ true) ys → filter of ys ≡ ys
  filter_all of ys all = filter_prefix of ys (length ys)
      ((λ k d lo hi. all k d hi), (λ k d lo hi. absurd (omega arith))) ∙ take-length ys

  -- what comes from a partition point on
  pub filter_rest :
      (before of : X → Bool) (xs : List X) (start : ℕ)
      → start ≤ length xs
      → IsPartitionPoint (λ y. before y ≡ true) (λ y. before y ≡ false) xs start
      → ((x : X) → before x ≡ true → of x ≡ false)
      → ((x : X) → before x ≡ false → of x ≡ true)
      → drop start xs ≡ filter of xs
  filter_rest before of xs start le front apart pass =
      let P : X → Type 0 = λ y. of y ≡ true in
      sym (filter_skip before of xs start front.0 apart le ∙ filter_all of (drop start xs)
      (λ k d lt. let within : k < length xs - start = rw length-drop at lt in
      subst P (sym (get_or-drop start xs k d))
      (pass (slice_index_or xs (start + k) d)
      (front.1 (start + k) d (omega arith) (omega arith)))))

-- what a search in a sorted list found
pub searched :
    {K : Type 0} {R : K → K → Ordering} (o : IsTotalOrder R) (exact : CmpEqualImpliesEq R)
    (xs : List K) (x : K) (r : Result ℕ ℕ)
    → IsSorted R xs
    → IsSearchInRange r (length xs)
    → IfOk r (HoldsAt (λ y. R y x ≡ Equal) xs)
    → IsBinarySearchResult (λ y. R y x) xs r
    → IsTrue (is_ok r) ↔ Contains xs x
searched o exact xs x (Ok i) up bound found position =
    ((λ t. (i, bound, exact (slice_index_or xs i x) x (found x))), (λ m. refl))
searched {R = R} o exact xs x (Err i) up bound found position =
    let apart = position (searchable_from_sorted o (λ k. k) xs x up) in (
      (λ t. cc),
      (λ m.
          let tie : R (slice_index_or xs m.0 x) x ≡ Equal = ap (λ k. R k x) m.2 ∙ tied_itself o x in
          elim (cases_lt m.0 i) [
            | inl lt ↦ let less : R (slice_index_or xs m.0 x) x ≡ Less =
                apart.0 m.0 x (omega arith) lt in cc
            | inr le ↦ let more : R (slice_index_or xs m.0 x) x ≡ Greater = apart.1 m.0 x le m.1 in
                cc
          ]),
    )
