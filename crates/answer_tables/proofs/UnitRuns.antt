-- Runs of one rank each, after other runs.
use Rattle.std.proofs.Common.{◌≡◌, ℕ, zero, suc, ◌+◌, ◌-◌, ◌<◌, ◌≤◌, List, [], ◌∷◌, ◌++◌, length}
use Rattle.std.proofs.Common.{get_or, replicate, refl, sym, ◌∙◌, ap, subst, arith, inl, inr}
use Rattle.std.proofs.Common.{length-append, append_assoc}
use Rattle.std.specs.Prelude.{◌⊎◌, slice_index_or}
use Rattle.std.proofs.lemmas.Bool.{cases_lt}
use Rattle.std.proofs.lemmas.List.{append-nil, length-replicate, get_or-replicate}
use Rattle.std.proofs.lemmas.List.{get_or_append_left, get_or-append_right}
use Rattle.std.proofs.lemmas.List.Elements.{All-append}
use Rattle.answer_tables.specs.declared.run.Run.{Run}
use Rattle.answer_tables.specs.Runs.{link_at, end_from, RiseFrom, NamedBelow, Extended, unit_runs}
use Rattle.answer_tables.proofs.Runs.{run_at, link_at-here, link_at-past, link_at-before}
use Rattle.answer_tables.proofs.Runs.{link_at-since}

pub length_units : (start : ℕ) (ns : List ℕ) → length (unit_runs start ns) ≡ length ns
length_units start [] = refl
length_units start (n ∷ ns) = ap suc (length_units (suc start) ns)

pub end_units : (start : ℕ) (ns : List ℕ) → end_from start (unit_runs start ns) ≡ start + length ns
end_units start [] = omega arith
end_units start (n ∷ ns) = let rest = end_units (suc start) ns in omega (arith, rest)

pub end_joined : (start : ℕ) (rs more : List Run)
    → end_from start (rs ++ more) ≡ end_from (end_from start rs) more
end_joined start [] more = refl
end_joined start (r ∷ rs) more = end_joined r.end rs more

rise_joined : (start : ℕ) (rs more : List Run) → RiseFrom start rs
    → RiseFrom (end_from start rs) more → RiseFrom start (rs ++ more)
rise_joined start [] more rise later = later
rise_joined start (r ∷ rs) more rise later = (rise.0, rise_joined r.end rs more rise.1 later)

rise_units : (start : ℕ) (ns : List ℕ) → RiseFrom start (unit_runs start ns)
rise_units start [] = tt
rise_units start (n ∷ ns) = (omega arith, rise_units (suc start) ns)

pub unit_at : (start : ℕ) (ns : List ℕ) (i : ℕ) → i < length ns
    → run_at (unit_runs start ns) i ≡ record { end = start + i + 1; link = get_or ns i 0 }
unit_at start [] i within = absurd (omega (arith, within))
unit_at start (n ∷ ns) zero within = let e : suc start ≡ start + 0 + 1 = omega arith in
    ap (λ (k : ℕ). record { end = k; link = n }) e
unit_at start (n ∷ ns) (suc i) within =
    let e : suc start + i + 1 ≡ start + suc i + 1 = omega arith in
    unit_at (suc start) ns i (omega (arith, within)) ∙ ap (λ (k : ℕ). record {
      end = k;
      link =
          get_or ns i 0;
    }) e

pub unit_link : (start : ℕ) (ns : List ℕ) (n : ℕ) → start ≤ n → n < start + length ns
    → link_at (unit_runs start ns) n ≡ get_or ns (n - start) 0
unit_link start [] n from below = absurd (omega (arith, from, below))
unit_link start (x ∷ ns) n from below =
    go (cases_lt n (suc start)) (λ past. unit_link (suc start) ns n past (omega (arith, below)))
  where
    first : Run
    first = record { end = suc start; link = x }

    go : (n < suc start) ⊎ (suc start ≤ n)
        → (suc start ≤ n → link_at (unit_runs (suc start) ns) n ≡ get_or ns (n - suc start) 0)
        → link_at (unit_runs start (x ∷ ns)) n ≡ get_or (x ∷ ns) (n - start) 0
    go (inl here) later = let e : n - start ≡ 0 = omega (arith, from, here) in
        link_at-here first (unit_runs (suc start) ns) n here ∙ sym
        (ap (λ (k : ℕ). get_or (x ∷ ns) k 0) e)
    go (inr past) later = let e : n - start ≡ suc (n - suc start) = omega (arith, past) in
        link_at-past first (unit_runs (suc start) ns) n past ∙ later past ∙ sym
        (ap (λ (k : ℕ). get_or (x ∷ ns) k 0) e)

pub units_joined : (start : ℕ) (ns more : List ℕ)
    → unit_runs start (ns ++ more) ≡ unit_runs start ns ++ unit_runs (start + length ns) more
units_joined start [] more = let e : start ≡ start + 0 = omega arith in
    ap (λ (k : ℕ). unit_runs k more) e
units_joined start (n ∷ ns) more =
    let e : suc start + length ns ≡ start + suc (length ns) = omega arith in
    ap (λ (rs : List Run). (record { end = suc start; link = n }) ∷ rs)
    (units_joined (suc start) ns more ∙ ap (λ (k : ℕ).
    unit_runs (suc start) ns ++ unit_runs k more) e)

units_named : (start limit x count : ℕ) → x < limit
    → NamedBelow limit (unit_runs start (replicate count x))
units_named start limit x zero small k d within = absurd (omega (arith, within))
units_named start limit x (suc count) small zero d within = small
units_named start limit x (suc count) small (suc k) d within =
    units_named (suc start) limit x count small k d (omega (arith, within))

module _ (runs : List Run) (ns : List ℕ) where
  pub whole_end : end_from 0 (runs ++ unit_runs (end_from 0 runs) ns) ≡ end_from 0 runs + length ns
  whole_end = end_joined 0 runs (unit_runs (end_from 0 runs) ns) ∙ end_units (end_from 0 runs) ns

  pub whole_rise : RiseFrom 0 runs → RiseFrom 0 (runs ++ unit_runs (end_from 0 runs) ns)
  whole_rise rise = rise_joined 0 runs (unit_runs (end_from 0 runs) ns) rise
      (rise_units (end_from 0 runs) ns)

  pub whole_length : length (runs ++ unit_runs (end_from 0 runs) ns) ≡ length runs + length ns
  whole_length = omega (
    arith,
    length-append runs (unit_runs (end_from 0 runs) ns),
    length_units
        (end_from 0 runs) ns,
  )

  pub whole_early : (n : ℕ) → n < end_from 0 runs
      → link_at (runs ++ unit_runs (end_from 0 runs) ns) n ≡ link_at runs n
  whole_early n below = link_at-before 0 runs (unit_runs (end_from 0 runs) ns) n (omega arith) below

  pub whole_late : (n : ℕ) → RiseFrom 0 runs → end_from 0 runs ≤ n → n < end_from 0 runs + length ns
      → link_at (runs ++ unit_runs (end_from 0 runs) ns) n ≡ get_or ns (n - end_from 0 runs) 0
  whole_late n rise from below =
      link_at-since 0 runs (unit_runs (end_from 0 runs) ns) n rise from ∙ unit_link
      (end_from 0 runs) ns n from below

  -- so many more ranks with one number
  pub whole_filled : (count x end : ℕ) → RiseFrom 0 runs → end ≡ end_from 0 runs + length ns + count
      → Extended (runs ++ unit_runs (end_from 0 runs) ns) (record {
        end = end;
        link =
            x;
      }) (runs ++ unit_runs (end_from 0 runs) (ns ++ replicate count x))
  whole_filled count x end rise is = record {
    rise = rise_joined 0 runs (unit_runs (end_from 0 runs) (ns ++ replicate count x)) rise
        (rise_units (end_from 0 runs) (ns ++ replicate count x));
    ends = end_joined 0 runs (unit_runs (end_from 0 runs) (ns ++ replicate count x)) ∙ end_units
        (end_from 0 runs) (ns ++ replicate count x) ∙ omega
        (arith, is, length-append ns (replicate count x), length-replicate count x);
    before = λ n below. ap (λ (rs : List Run).
        link_at rs n) longer ∙ link_at-before 0 (runs ++ unit_runs (end_from 0 runs) ns) more n
        (omega arith) below;
    since = λ n from below.
        ap (λ (rs : List Run). link_at rs n) longer ∙ link_at-since 0
        (runs ++ unit_runs (end_from 0 runs) ns) more n (whole_rise rise) from
        ∙ unit_link (end_from 0 runs + length ns) (replicate count x) n
        (omega (arith, from, whole_end)) (omega (arith, below, is, length-replicate count x))
        ∙ get_or-replicate count (n - (end_from 0 runs + length ns)) x 0
        (omega (arith, from, whole_end, below, is));
    named = λ limit all small. subst (NamedBelow limit) (sym longer)
        (All-append (λ (r : Run). r.link < limit) (runs ++ unit_runs (end_from 0 runs) ns) more all
        (units_named (end_from 0 runs + length ns) limit x count small));
  }
    where
      more : List Run
      more = unit_runs (end_from 0 runs + length ns) (replicate count x)

      longer : runs ++ unit_runs (end_from 0 runs) (ns ++ replicate count x)
          ≡ (runs ++ unit_runs (end_from 0 runs) ns) ++ more
      longer = ap (λ (rs : List Run). runs ++ rs)
          (units_joined (end_from 0 runs) ns (replicate count x)) ∙ sym
          (append_assoc runs (unit_runs (end_from 0 runs) ns) more)

-- the last run tells where runs end
pub end_last : (start : ℕ) (runs : List Run) (d : Run) → 0 < length runs
    → end_from start runs ≡ (slice_index_or runs (length runs - 1) d).end
end_last start [] d some = absurd (omega (arith, some))
end_last start (r ∷ []) d some = refl
end_last start (r ∷ s ∷ rs) d some =
    let e : suc (suc (length rs)) - 1 ≡ suc (suc (length rs) - 1) = omega arith in
    end_last r.end (s ∷ rs) d (omega arith) ∙ sym
    (ap (λ (k : ℕ). (slice_index_or (r ∷ s ∷ rs) k d).end) e)

pub end_none : (start : ℕ) (runs : List Run) → length runs ≡ 0 → end_from start runs ≡ start
end_none start [] none = refl
end_none start (r ∷ rs) none = absurd (omega (arith, none))

-- no runs beyond are left
pub no_units : (runs : List Run) (ns : List ℕ) → ns ≡ []
    → runs ++ unit_runs (end_from 0 runs) ns ≡ runs
no_units runs ns none = ap (λ (xs : List ℕ).
    runs ++ unit_runs (end_from 0 runs) xs) none ∙ append-nil runs

-- one more number
pub units_pushed : (runs : List Run) (front : List ℕ) (x end : ℕ)
    → end ≡ end_from 0 runs + length front
    → (runs ++ unit_runs (end_from 0 runs) front) ++ (record { end = end + 1; link = x }) ∷ []
    ≡ runs ++ unit_runs (end_from 0 runs) (front ++ x ∷ [])
units_pushed runs front x end is =
    let e : end + 1 ≡ suc (end_from 0 runs + length front) = omega (arith, is) in
    append_assoc runs (unit_runs (end_from 0 runs) front)
    ((record { end = end + 1; link = x }) ∷ [])
    ∙ ap (λ (k : ℕ). runs ++ (unit_runs (end_from 0 runs) front ++ (record { end = k; link = x })
    ∷ [])) e
    ∙ sym (ap (λ (rs : List Run). runs ++ rs) (units_joined (end_from 0 runs) front (x ∷ [])))

-- the run at a place after the first ones
pub whole_at_early : (runs : List Run) (ns : List ℕ) (i : ℕ) → i < length runs
    → run_at (runs ++ unit_runs (end_from 0 runs) ns) i ≡ run_at runs i
whole_at_early runs ns i within =
    get_or_append_left runs (unit_runs (end_from 0 runs) ns) (record { end = 0; link = 0 }) i within

pub whole_at_late : (runs : List Run) (ns : List ℕ) (i : ℕ) → length runs ≤ i
    → i < length runs + length ns → run_at (runs ++ unit_runs (end_from 0 runs) ns) i
    ≡ record { end = end_from 0 runs + (i - length runs) + 1; link = get_or ns (i - length runs) 0 }
whole_at_late runs ns i past within =
    get_or-append_right runs (unit_runs (end_from 0 runs) ns) (length runs) i (record {
      end =
          0;
      link = 0;
    }) refl past
    ∙ unit_at (end_from 0 runs) ns (i - length runs) (omega (arith, past, within))

-- one more number, told of bytes alone
pub Extended-unit : (front : List ℕ) (x end : ℕ) → end ≡ length front + 1
    → Extended (unit_runs 0 front) (record { end = end; link = x }) (unit_runs 0 (front ++ x ∷ []))
Extended-unit front x end is = whole_filled [] front 1 x end tt (omega (arith, is))

pub Extended-units : (front : List ℕ) (x end : ℕ) → length front < end
    → Extended (unit_runs 0 front) (record {
      end = end;
      link =
          x;
    }) (unit_runs 0 (front ++ replicate (end - length front) x))
Extended-units front x end less =
    whole_filled [] front (end - length front) x end tt (omega (arith, less))

pub end_unit : (ns : List ℕ) → end_from 0 (unit_runs 0 ns) ≡ length ns
end_unit ns = omega (arith, end_units 0 ns)

pub rise_unit : (ns : List ℕ) → RiseFrom 0 (unit_runs 0 ns)
rise_unit ns = rise_units 0 ns

pub unit_run : (ns : List ℕ) (i : ℕ) → i < length ns
    → run_at (unit_runs 0 ns) i ≡ record { end = i + 1; link = get_or ns i 0 }
unit_run ns i within = let e : 0 + i + 1 ≡ i + 1 = omega arith in
    unit_at 0 ns i within ∙ ap (λ (k : ℕ). record { end = k; link = get_or ns i 0 }) e

-- the number at a rank is that byte
pub unit_byte : (ns : List ℕ) (n : ℕ) → n < length ns → link_at (unit_runs 0 ns) n ≡ get_or ns n 0
unit_byte ns n within = let e : n - 0 ≡ n = omega arith in
    unit_link 0 ns n (omega arith) (omega (arith, within)) ∙ ap (λ (k : ℕ). get_or ns k 0) e
