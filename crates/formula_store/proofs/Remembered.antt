-- A memo keeps what it remembers.
use Rattle.std.proofs.Common.{◌≡◌, ℕ, Bool, true, false, cond, List, refl, sym, ◌∙◌, ap, subst}
use Rattle.std.proofs.Common.{arith}
use Rattle.std.specs.Prelude.{Option, Some, slice_get, Result, Ok, Err, OnOk, OnErr, IfSome}
use Rattle.std.specs.HashMap.{HashMap, get, Updates, IsUnchanged}
use Rattle.antichains.specs.Sets.{holds}
use Rattle.antichains.specs.Antichain.{IsMinimal}
use Rattle.formula_store.specs.declared.pair.Pair.{Pair}
use Rattle.formula_store.specs.Interned.{interned}
use Rattle.formula_store.specs.Memo.{same_pair, IsCombined, Remembers}
use Rattle.formula_store.proofs.Antichains.{slice_get-interned, one_at, interned-there}

pub IsCombined-interned : (test : Bool → Bool
    → Bool) (antichains : List (List ℕ)) (one : List ℕ) (pair : Pair) (place : ℕ)
    → IsCombined test antichains pair place → IsCombined test (interned antichains one) pair place
IsCombined-interned test antichains one pair place is = record {
  first = is.first;
  second = is.second;
  result = is.result;
  first_at = slice_get-interned antichains one pair.first is.first is.first_at;
  second_at = slice_get-interned antichains one pair.second is.second is.second_at;
  result_at = slice_get-interned antichains one place is.result is.result_at;
  minimal = is.minimal;
}

pub Remembers-interned : {S : Type 0} (test : Bool → Bool
    → Bool) (antichains new : List (List ℕ)) (one : List ℕ) (memo : HashMap Pair ℕ S)
    → Remembers test antichains memo → new ≡ interned antichains one → Remembers test new memo
Remembers-interned test antichains new one memo remembers is pair place at =
    subst (λ (cs : List (List ℕ)). IsCombined test cs pair place) (sym is)
    (IsCombined-interned test antichains one pair place (remembers pair place at))

-- what the memo remembers of two antichains is their combination
pub recalled : (test : Bool → Bool → Bool) (antichains : List (List ℕ)) (pair : Pair) (place : ℕ)
    → IsCombined test antichains pair place → (a b stored : List ℕ)
    → slice_get antichains pair.first ≡ Some a → slice_get antichains pair.second ≡ Some b
    → slice_get antichains place ≡ Some stored
    → IsMinimal (λ v. test (holds a v) (holds b v)) stored
recalled test antichains pair place is a b stored first second at =
    subst (λ (x : List ℕ). IsMinimal (λ v. test (holds x v) (holds b v)) stored)
    (one_at antichains pair.first is.first a is.first_at first)
    (subst (λ (y : List ℕ). IsMinimal (λ v. test (holds is.first v) (holds y v)) stored)
    (one_at antichains pair.second is.second b is.second_at second)
    (subst (IsMinimal (λ v. test (holds is.first v) (holds is.second v)))
    (one_at antichains place is.result stored is.result_at at) is.minimal))

abbrev pair_of : ℕ → ℕ → Pair
pair_of x y = record { first = x; second = y }

same_pair-is : (a b : Pair) → same_pair a b ≡ true → a ≡ b
same_pair-is a b h =
    let first : a.first ≡ b.first = grind arith in
    let second : a.second ≡ b.second = grind arith in
    ap (λ (x : ℕ). pair_of x a.second) first ∙ ap (pair_of b.first) second

pub Remembers-insert : {S : Type 0} (test : Bool → Bool
    → Bool) (antichains : List (List ℕ)) (memo new : HashMap Pair ℕ S) (pair : Pair) (place : ℕ)
    → Remembers test antichains memo → Updates same_pair memo new pair (Some place)
    → IsCombined test antichains pair place → Remembers test antichains new
Remembers-insert test antichains memo new pair place remembers updates is other at there =
    go (same_pair pair other) refl (sym (updates.0 other) ∙ there)
  where
    go : (b : Bool) → same_pair pair other ≡ b
        → cond b (Some place) (get same_pair memo other) ≡ Some at
        → IsCombined test antichains other at
    go true same e =
        let pairs : pair ≡ other = same_pair-is pair other same in
        let places : place ≡ at = cc in
        subst (λ (p : Pair). IsCombined test antichains p at) pairs
        (subst (IsCombined test antichains pair) places is)
    go false same e = remembers other at e

-- a new combination
pub combined : (test : Bool → Bool
    → Bool) (old antichains : List (List ℕ)) (pair : Pair) (place : ℕ) (a b link : List ℕ)
    → antichains ≡ interned old link → slice_get old pair.first ≡ Some a
    → slice_get old pair.second ≡ Some b → slice_get antichains place ≡ Some link
    → IsMinimal (λ v. test (holds a v) (holds b v)) link → IsCombined test antichains pair place
combined test old antichains pair place a b link is first second at minimal = record {
  first = a;
  second = b;
  result = link;
  first_at = subst (λ (cs : List (List ℕ)). slice_get cs pair.first
      ≡ Some a) (sym is) (slice_get-interned old link pair.first a first);
  second_at = subst (λ (cs : List (List ℕ)). slice_get cs pair.second
      ≡ Some b) (sym is) (slice_get-interned old link pair.second b second);
  result_at = at;
  minimal = minimal;
}

-- after an insertion that may have failed
pub Remembers-tried : {S X E : Type 0} (test : Bool → Bool
    → Bool) (antichains : List (List ℕ)) (memo new : HashMap Pair ℕ S) (pair : Pair) (place : ℕ)
    (result : Result X E) → Remembers test antichains memo
    → OnOk result (Updates same_pair memo new pair (Some place))
    → OnErr result (IsUnchanged memo new) → IsCombined test antichains pair place
    → Remembers test antichains new
Remembers-tried test antichains memo new pair place (Ok x) remembers updates unchanged is =
    Remembers-insert test antichains memo new pair place remembers updates is
Remembers-tried test antichains memo new pair place (Err e) remembers updates unchanged is =
    λ other at there. remembers other at (rw unchanged at there)

-- the pair that was found, behind an option
pub pair_told : (antichains : List (List ℕ)) (a b : List ℕ) (result : Option Pair) (pair : Pair)
    → result ≡ Some pair → IfSome result (λ p. (slice_get antichains p.first ≡ Some a)
    × (slice_get antichains p.second ≡ Some b))
    → (slice_get antichains pair.first ≡ Some a) × (slice_get antichains pair.second ≡ Some b)
pair_told antichains a b result pair is told =
    subst (λ (o : Option Pair). IfSome o (λ p. (slice_get antichains p.first ≡ Some a)
    × (slice_get antichains p.second ≡ Some b))) is told

pub stays : (antichains : List (List ℕ)) (place : ℕ) (stored link : List ℕ)
    → slice_get antichains place ≡ Some stored → link ≡ stored
    → antichains ≡ interned antichains link
stays antichains place stored link at is =
    sym (ap (interned antichains) is ∙ interned-there stored antichains place at)
