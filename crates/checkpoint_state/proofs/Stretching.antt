-- Stretches of equal numbers.
use Rattle.std.proofs.Common.{◌≡◌, ℕ, zero, suc, ◌<◌, ◌≤◌, Bool, true, false, cond, List, []}
use Rattle.std.proofs.Common.{◌∷◌, ◌++◌, length, replicate, refl, sym, ◌∙◌, ap, subst, arith, inl}
use Rattle.std.proofs.Common.{inr, nat_eq}
use Rattle.std.specs.Prelude.{◌⊎◌, ◌≢◌, All, map}
use Rattle.std.specs.List.{Contains, sum_by}
use Rattle.std.proofs.lemmas.List.Sums.{sum_by-cons}
use Rattle.std.proofs.lemmas.Bool.Decides.{eqb_tells}
use Rattle.std.proofs.lemmas.List.{map-append}
use Rattle.std.proofs.lemmas.List.Elements.{All-cons, All-nil, All-tail, Contains-append_right}
use Rattle.list_lemmas.proofs.Elements.{All-front, All-back}
use Rattle.answer_tables.specs.Lengths.{AreRunsOf, spread_out}
use Rattle.answer_tables.specs.Lengths as lengths
use Rattle.checkpoint_text.specs.declared.checkpoint.Stretch.{Stretch}
use Rattle.checkpoint_text.specs.Suspended.{AreApart}
use Rattle.checkpoint_state.specs.Suspending.{before_stretches, number_in, stretch_of, stretches_of}
use Rattle.checkpoint_state.specs.Telling.{drawn_out}
use Rattle.checkpoint_state.proofs.Interning.{number_tells}

abbrev pub HaveSome : List Stretch → Type 0
HaveSome stretches = All (λ s. 0 < s.count) stretches

-- the first stretch has another number
abbrev pub IsOther : ℕ → List Stretch → Type 0
IsOther number [] = Unit {0}
IsOther number (s ∷ ss) = number ≢ s.list

-- ---- one more number

abbrev Tells : ℕ → ℕ → Type 0
Tells a b = ((nat_eq a b ≡ true) × (a ≡ b)) ⊎ ((nat_eq a b ≡ false) × (a ≢ b))

before_same : (number : ℕ) (s : Stretch) (ss : List Stretch) → nat_eq number s.list ≡ true
    → before_stretches number (s ∷ ss) ≡ (record { count = suc s.count; list = number }) ∷ ss
before_same number s ss same =
    ap (λ (b : Bool). cond b ((record { count = suc s.count; list = number }) ∷ ss)
    ((record { count = 1; list = number }) ∷ (s ∷ ss))) same

before_other : (number : ℕ) (s : Stretch) (ss : List Stretch) → nat_eq number s.list ≡ false
    → before_stretches number (s ∷ ss) ≡ (record { count = 1; list = number }) ∷ (s ∷ ss)
before_other number s ss other =
    ap (λ (b : Bool). cond b ((record { count = suc s.count; list = number }) ∷ ss)
    ((record { count = 1; list = number }) ∷ (s ∷ ss))) other

-- a new stretch
new_before : (number : ℕ) (ss : List Stretch) → IsOther number ss
    → before_stretches number ss ≡ (record { count = 1; list = number }) ∷ ss
new_before number [] other = refl
new_before number (s ∷ ss) other = go (eqb_tells number s.list)
  where
    go : Tells number s.list
        → before_stretches number (s ∷ ss) ≡ (record { count = 1; list = number }) ∷ (s ∷ ss)
    go (inl same) = absurd (other same.1)
    go (inr differ) = before_other number s ss differ.0

-- a longer one
longer_before : (number : ℕ) (s : Stretch) (ss : List Stretch) → number ≡ s.list
    → before_stretches number (s ∷ ss) ≡ (record { count = suc s.count; list = number }) ∷ ss
longer_before number s ss is = go (eqb_tells number s.list)
  where
    go : Tells number s.list → before_stretches number (s ∷ ss)
        ≡ (record { count = suc s.count; list = number }) ∷ ss
    go (inl same) = before_same number s ss same.0
    go (inr differ) = absurd (differ.1 is)

-- so many of one number before others
run_before : (number k : ℕ) (rest : List ℕ) (ss : List Stretch) → stretches_of rest ≡ ss
    → IsOther number ss → stretches_of (replicate (suc k) number ++ rest)
    ≡ (record { count = suc k; list = number }) ∷ ss
run_before number zero rest ss is other =
    ap (before_stretches number) is ∙ new_before number ss other
run_before number (suc k) rest ss is other =
    ap (before_stretches number) (run_before number k rest ss is other)
    ∙ longer_before number (record { count = suc k; list = number }) ss refl

other_next : (s : Stretch) (ss : List Stretch) → AreApart (s ∷ ss) → IsOther s.list ss
other_next s [] apart = tt
other_next s (r ∷ ss) apart = apart.0

apart_rest : (s : Stretch) (ss : List Stretch) → AreApart (s ∷ ss) → AreApart ss
apart_rest s [] apart = tt
apart_rest s (r ∷ ss) apart = apart.1

-- stretches of different neighbours are those of their numbers
pub stretches_drawn : (ss : List Stretch) → HaveSome ss → AreApart ss
    → stretches_of (drawn_out ss) ≡ ss
stretches_drawn [] some apart = refl
stretches_drawn (s ∷ ss) some apart =
    go s.count (some zero s (omega arith)) refl
    (stretches_drawn ss (All-tail (λ (r : Stretch). 0 < r.count) s ss some)
    (apart_rest s ss apart))
  where
    go : (n : ℕ) → 0 < n → n ≡ s.count → stretches_of (drawn_out ss) ≡ ss
        → stretches_of (replicate s.count s.list ++ drawn_out ss) ≡ s ∷ ss
    go zero more is rest = absurd (omega (arith, more))
    go (suc k) more is rest =
        subst (λ (n : ℕ). stretches_of (replicate n s.list ++ drawn_out ss)
        ≡ (record { count = n; list = s.list }) ∷ ss) is
        (run_before s.list k (drawn_out ss) ss rest (other_next s ss apart))

-- ---- what holds of the stretches of any numbers

pub record AreOf (numbers : List ℕ) (ss : List Stretch) : Type 0 where
  pub some : HaveSome ss
  pub apart : AreApart ss
  pub drawn : drawn_out ss ≡ numbers
  pub all : sum_by (λ s. s.count) ss ≡ length numbers

before_of : (number : ℕ) (numbers : List ℕ) (ss : List Stretch) → AreOf numbers ss
    → AreOf (number ∷ numbers) (before_stretches number ss)
before_of number numbers [] are = record {
  some = All-cons (λ (s : Stretch). 0 < s.count) (record { count = 1; list = number }) []
      (omega arith) (All-nil (λ (s : Stretch). 0 < s.count));
  apart = tt;
  drawn = ap (λ (ns : List ℕ). number ∷ ns) are.drawn;
  all = let rest = are.all in omega (arith, rest);
}
before_of number numbers (s ∷ ss) are = go (eqb_tells number s.list)
  where
    some_rest : HaveSome ss
    some_rest = All-tail (λ (r : Stretch). 0 < r.count) s ss are.some

    apart_more : (n : ℕ) (rs : List Stretch) → AreApart (s ∷ rs)
        → AreApart ((record { count = n; list = s.list }) ∷ rs)
    apart_more n [] apart = tt
    apart_more n (r ∷ rs) apart = apart

    longer : number ≡ s.list
        → AreOf (number ∷ numbers) ((record { count = suc s.count; list = number }) ∷ ss)
    longer is = record {
      some = All-cons (λ (r : Stretch). 0 < r.count)
          (record { count = suc s.count; list = number }) ss (omega arith) some_rest;
      apart = subst (λ (n : ℕ). AreApart ((record { count = suc s.count; list = n }) ∷ ss)) (sym is)
          (apart_more (suc s.count) ss are.apart);
      drawn = ap (λ (n : ℕ). number ∷ (replicate s.count n ++ drawn_out ss)) is
          ∙ ap (λ (ns : List ℕ). number ∷ ns) are.drawn;
      all =
          let whole = are.all in
          let old = sum_by-cons (λ (r : Stretch). r.count) s ss in
          let new = sum_by-cons (λ (r : Stretch). r.count)
          (record { count = suc s.count; list = number }) ss in
          omega (arith, whole, old, new);
    }

    another : number ≢ s.list
        → AreOf (number ∷ numbers) ((record { count = 1; list = number }) ∷ (s ∷ ss))
    another differ = record {
      some = All-cons (λ (r : Stretch). 0 < r.count) (record { count = 1; list = number }) (s ∷ ss)
          (omega arith) are.some;
      apart = (differ, are.apart);
      drawn = ap (λ (ns : List ℕ). number ∷ ns) are.drawn;
      all =
          let whole = are.all in
          let new = sum_by-cons (λ (r : Stretch). r.count) (record { count = 1; list = number })
          (s ∷ ss) in
          omega (arith, whole, new);
    }

    go : Tells number s.list → AreOf (number ∷ numbers) (before_stretches number (s ∷ ss))
    go (inl same) = subst (AreOf (number ∷ numbers)) (sym (before_same number s ss same.0))
        (longer same.1)
    go (inr differ) = subst (AreOf (number ∷ numbers)) (sym (before_other number s ss differ.0))
        (another differ.1)

pub stretches_are : (numbers : List ℕ) → AreOf numbers (stretches_of numbers)
stretches_are [] = record {
  some = All-nil (λ (s : Stretch). 0 < s.count);
  apart = tt;
  drawn = refl;
  all = refl;
}
stretches_are (number ∷ numbers) =
    before_of number numbers (stretches_of numbers) (stretches_are numbers)

-- each stretch's number is one of the numbers
pub number_drawn : (ss : List Stretch) (s : Stretch) → HaveSome ss → Contains ss s
    → Contains (drawn_out ss) s.list
number_drawn [] s some there = absurd (let l = there.1 in omega (arith, l))
number_drawn (r ∷ ss) s some (zero, within, is) =
    subst (λ (x : Stretch). Contains (drawn_out (r ∷ ss)) x.list) is
    (go r.count (some zero r (omega arith)))
  where
    go : (n : ℕ) → 0 < n → Contains (replicate n r.list ++ drawn_out ss) r.list
    go zero more = absurd (omega (arith, more))
    go (suc n) more = (zero, omega arith, refl)
number_drawn (r ∷ ss) s some (suc k, within, is) =
    Contains-append_right (replicate r.count r.list) (drawn_out ss) s.list
    (number_drawn ss s (All-tail (λ (x : Stretch). 0 < x.count) r ss some)
    (k, omega (arith, within), is))

-- ---- the stretches of runs

map_replicate : {A B : Type 0} (f : A → B) (n : ℕ) (x : A)
    → map f (replicate n x) ≡ replicate n (f x)
map_replicate f zero x = refl
map_replicate {B = B} f (suc n) x = ap (λ (ys : List B). f x ∷ ys) (map_replicate f n x)

drawn_runs : (lists : List (List ℕ)) (runs : List (ℕ × List ℕ))
    → drawn_out (map (stretch_of lists) runs) ≡ map (number_in lists) (spread_out runs)
drawn_runs lists [] = refl
drawn_runs lists (r ∷ rs) =
    ap (λ (ns : List ℕ). replicate r.0 (number_in lists r.1) ++ ns) (drawn_runs lists rs)
    ∙ ap (λ (ns : List ℕ). ns ++ map (number_in lists) (spread_out rs))
    (sym (map_replicate (number_in lists) r.0 r.1))
    ∙ sym (map-append (number_in lists) (replicate r.0 r.1) (spread_out rs))

some_runs : (lists : List (List ℕ)) (runs : List (ℕ × List ℕ)) → All (λ r. 1 ≤ r.0) runs
    → HaveSome (map (stretch_of lists) runs)
some_runs lists [] some = All-nil (λ (s : Stretch). 0 < s.count)
some_runs lists (r ∷ rs) some =
    All-cons (λ (s : Stretch). 0 < s.count) (stretch_of lists r) (map (stretch_of lists) rs)
    (some zero r (omega arith))
    (some_runs lists rs (All-tail (λ (x : ℕ × List ℕ). 1 ≤ x.0) r rs some))

apart_runs : (lists : List (List ℕ)) (runs : List (ℕ × List ℕ)) → lengths.AreApart runs
    → All (λ r. Contains lists r.1) runs → AreApart (map (stretch_of lists) runs)
apart_runs lists [] apart known = tt
apart_runs lists (r ∷ []) apart known = tt
apart_runs lists (r ∷ (s ∷ rs)) apart known = (
  λ same. apart.0 (number_tells lists r.1 s.1 (known zero r (omega arith))
      (known (suc zero) r (omega arith)) same),
  apart_runs lists (s ∷ rs) apart.1 (All-tail (λ (x : ℕ × List ℕ). Contains lists x.1) r (s ∷ rs)
      known),
)

pub known_runs : (lists : List (List ℕ)) (runs : List (ℕ × List ℕ)) → All (λ r. 1 ≤ r.0) runs
    → All (Contains lists) (spread_out runs) → All (λ r. Contains lists r.1) runs
known_runs lists [] some known = All-nil (λ (r : ℕ × List ℕ). Contains lists r.1)
known_runs lists (r ∷ rs) some known =
    All-cons (λ (x : ℕ × List ℕ). Contains lists x.1) r rs
    (first r.0 (some zero r (omega arith))
    (All-front (Contains lists) (replicate r.0 r.1) (spread_out rs) known))
    (known_runs lists rs (All-tail (λ (x : ℕ × List ℕ). 1 ≤ x.0) r rs some)
    (All-back (Contains lists) (replicate r.0 r.1) (spread_out rs) known))
  where
    first : (n : ℕ) → 1 ≤ n → All (Contains lists) (replicate n r.1) → Contains lists r.1
    first zero more all = absurd (omega (arith, more))
    first (suc n) more all = all zero r.1 (omega arith)

-- the stretches of a table's numbers are its runs with their numbers
pub stretches_runs : (lists antichains : List (List ℕ)) (runs : List (ℕ × List ℕ))
    → AreRunsOf antichains runs → All (Contains lists) antichains
    → stretches_of (map (number_in lists) antichains) ≡ map (stretch_of lists) runs
stretches_runs lists antichains runs are known =
    let every : All (Contains lists) (spread_out runs) =
    subst (All (Contains lists)) (sym are.all) known in
    ap (λ (xs : List (List ℕ)). stretches_of (map (number_in lists) xs)) (sym are.all)
    ∙ ap stretches_of (sym (drawn_runs lists runs))
    ∙ stretches_drawn (map (stretch_of lists) runs) (some_runs lists runs are.some)
    (apart_runs lists runs are.apart (known_runs lists runs are.some every))
