-- Runs, and what one more of them changes.
use Rattle.std.proofs.Common.{◌≡◌, ℕ, zero, suc, ◌+◌, ◌-◌, ◌<◌, ◌≤◌, Bool, cond, List, [], ◌∷◌}
use Rattle.std.proofs.Common.{◌++◌, length, take, drop, get_or, refl, sym, ◌∙◌, ap, subst, arith}
use Rattle.std.proofs.Common.{inl, inr, add-one}
use Rattle.std.specs.Prelude.{◌⊎◌, All, slice_set, slice_index_or}
use Rattle.std.proofs.lemmas.Bool.{cases_lt, lt-ltb, le-ltb}
use Rattle.std.proofs.lemmas.List.{take_more, take_all, set_split, drop_all}
use Rattle.std.proofs.lemmas.List.Elements.{All-push, All-nil}
use Rattle.std.proofs.Math.Seq.{drop-cons}
use Rattle.answer_tables.specs.declared.run.Run.{Run}
use Rattle.answer_tables.specs.Runs.{link_at, end_from, RiseFrom, NamedBelow, Extended}

pub link_at-here : (r : Run) (rs : List Run) (n : ℕ) → n < r.end → link_at (r ∷ rs) n ≡ r.link
link_at-here r rs n less = ap (λ (b : Bool). cond b r.link (link_at rs n)) (lt-ltb n r.end less)

pub link_at-past : (r : Run) (rs : List Run) (n : ℕ) → r.end ≤ n → link_at (r ∷ rs) n ≡ link_at rs n
link_at-past r rs n past = ap (λ (b : Bool). cond b r.link (link_at rs n)) (le-ltb n r.end past)

pub end_from-append : (start : ℕ) (rs : List Run) (r : Run) → end_from start (rs ++ r ∷ []) ≡ r.end
end_from-append start [] r = refl
end_from-append start (x ∷ rs) r = end_from-append x.end rs r

pub RiseFrom-append : (start : ℕ) (rs : List Run) (r : Run) → RiseFrom start rs
    → end_from start rs < r.end → RiseFrom start (rs ++ r ∷ [])
RiseFrom-append start [] r rise less = (less, tt)
RiseFrom-append start (x ∷ rs) r rise less = (rise.0, RiseFrom-append x.end rs r rise.1 less)

-- runs end at or above their beginning
pub end_from-above : (start : ℕ) (rs : List Run) → RiseFrom start rs → start ≤ end_from start rs
end_from-above start [] rise = omega arith
end_from-above start (x ∷ rs) rise = let later = end_from-above x.end rs rise.1 in let less =
    rise.0 in omega (arith, later, less)

pub link_at-before : (start : ℕ) (rs more : List Run) (n : ℕ) → start ≤ n → n < end_from start rs
    → link_at (rs ++ more) n ≡ link_at rs n
link_at-before start [] more n from below = absurd (omega (arith, from, below))
link_at-before start (x ∷ rs) more n from below =
    go (cases_lt n x.end) (λ past. link_at-before x.end rs more n past below)
  where
    go : (n < x.end) ⊎ (x.end ≤ n) → (x.end ≤ n → link_at (rs ++ more) n ≡ link_at rs n)
        → link_at (x ∷ (rs ++ more)) n ≡ link_at (x ∷ rs) n
    go (inl here) later = link_at-here x (rs ++ more) n here ∙ sym (link_at-here x rs n here)
    go (inr past) later = link_at-past x (rs ++ more) n past ∙ later past ∙ sym
        (link_at-past x rs n past)

pub link_at-since : (start : ℕ) (rs more : List Run) (n : ℕ) → RiseFrom start rs
    → end_from start rs ≤ n → link_at (rs ++ more) n ≡ link_at more n
link_at-since start [] more n rise past = refl
link_at-since start (x ∷ rs) more n rise past =
    link_at-past x (rs ++ more) n (let low = end_from-above x.end rs rise.1 in
    omega (arith, low, past)) ∙ link_at-since x.end rs more n rise.1 past

-- the number at each rank below the end is below the limit
pub link_at-named : (start : ℕ) (rs : List Run) (limit n : ℕ) → NamedBelow limit rs → start ≤ n
    → n < end_from start rs → link_at rs n < limit
link_at-named start [] limit n named from below = absurd (omega (arith, from, below))
link_at-named start (x ∷ rs) limit n named from below =
    go (cases_lt n x.end) (λ past. link_at-named x.end rs limit n (λ k d within.
    named (suc k) d (omega (arith, within))) past below)
  where
    first : x.link < limit
    first = named zero x (omega arith)

    go : (n < x.end) ⊎ (x.end ≤ n) → (x.end ≤ n → link_at rs n < limit) → link_at (x ∷ rs) n < limit
    go (inl here) later = subst (λ (k : ℕ). k < limit) (sym (link_at-here x rs n here)) first
    go (inr past) later = subst (λ (k : ℕ). k < limit) (sym (link_at-past x rs n past)) (later past)

-- one more run at the end
pub Extended-pushed : (old : List Run) (r : Run) → RiseFrom 0 old → end_from 0 old < r.end
    → Extended old r (old ++ r ∷ [])
Extended-pushed old r rise less = record {
  rise = RiseFrom-append 0 old r rise less;
  ends = end_from-append 0 old r;
  before = λ n below. link_at-before 0 old (r ∷ []) n (omega arith) below;
  since = λ n from below. link_at-since 0 old (r ∷ []) n rise from ∙ link_at-here r [] n below;
  named = λ limit all small. All-push (λ (x : Run). x.link < limit) old r all small;
}

RiseFrom-front : (start : ℕ) (rs : List Run) (r : Run) → RiseFrom start (rs ++ r ∷ [])
    → RiseFrom start rs × (end_from start rs < r.end)
RiseFrom-front start [] r rise = (tt, rise.0)
RiseFrom-front start (x ∷ rs) r rise = let rest = RiseFrom-front x.end rs r rise.1 in
    ((rise.0, rest.0), rest.1)

All-front : (P : Run → Type 0) (rs : List Run) (r : Run) → All P (rs ++ r ∷ []) → All P rs
All-front P [] r all = All-nil P
All-front P (x ∷ rs) r all =
    go (All-front P rs r (λ k d within. all (suc k) d (omega (arith, within))))
  where
    go : All P rs → All P (x ∷ rs)
    go rest zero d within = all zero d (omega arith)
    go rest (suc k) d within = rest k d (omega (arith, within))

-- a longer last run
pub Extended-joined : (front : List Run) (last r : Run) → RiseFrom 0 (front ++ last ∷ [])
    → last.link ≡ r.link → end_from 0 (front ++ last ∷ []) < r.end
    → Extended (front ++ last ∷ []) r (front ++ r ∷ [])
Extended-joined front last r rise same less = record {
  rise = RiseFrom-append 0 front r parts.0 up;
  ends = end_from-append 0 front r;
  before = λ n below. before n (subst (λ (e : ℕ). n < e) end below) (cases_lt n (end_from 0 front));
  since = λ n from below. link_at-since 0 front (r ∷ []) n parts.0
      (omega (arith, from, end, parts.1)) ∙ link_at-here r [] n below;
  named = λ limit all small. All-push (λ (x : Run).
      x.link < limit) front r (All-front (λ (x : Run). x.link < limit) front last all) small;
}
  where
    end : end_from 0 (front ++ last ∷ []) ≡ last.end
    end = end_from-append 0 front last

    parts : RiseFrom 0 front × (end_from 0 front < last.end)
    parts = RiseFrom-front 0 front last rise

    up : end_from 0 front < r.end
    up = omega (arith, parts.1, less, end)

    before : (n : ℕ) → n < last.end → (n < end_from 0 front) ⊎ (end_from 0 front ≤ n)
        → link_at (front ++ r ∷ []) n ≡ link_at (front ++ last ∷ []) n
    before n below (inl early) =
        link_at-before 0 front (r ∷ []) n (omega arith) early ∙ sym
        (link_at-before 0 front (last ∷ []) n (omega arith) early)
    before n below (inr late) =
        link_at-since 0 front (r ∷ []) n parts.0 late ∙ link_at-here r [] n
        (omega (arith, below, less, end)) ∙ sym same
        ∙ sym (link_at-here last [] n below) ∙ sym
        (link_at-since 0 front (last ∷ []) n parts.0 late)

-- the same by a write over the last run
pub Extended-written : (old : List Run) (count : ℕ) (last r : Run) → count ≡ length old → 0 < count
    → last ≡ get_or old (count - 1) last → RiseFrom 0 old → last.link ≡ r.link
    → end_from 0 old < r.end → Extended old r (slice_set old (count - 1) r)
Extended-written old count last r len some is rise same less =
    let within : count - 1 < length old = omega (arith, len, some) in
    let whole : old ≡ take (count - 1) old ++ last ∷ [] =
    sym (take_all (count - 1 + 1) old (omega (arith, len, some))) ∙ take_more old (count - 1) last
    within ∙ ap (λ (x : Run). take (count - 1) old ++ x ∷ []) (sym is) in
    let cut : slice_set old (count - 1) r ≡ take (count - 1) old ++ r ∷ [] =
    set_split old (count - 1) r within ∙ ap (λ (xs : List Run).
    take (count - 1) old ++ r ∷ xs)
    (drop_all (suc (count - 1)) old (omega (arith, len, some))) in
    subst (Extended old r) (sym cut) (subst (λ (xs : List Run).
    Extended xs r (take (count - 1) old ++ r ∷ [])) (sym whole)
    (Extended-joined (take (count - 1) old) last r (subst (RiseFrom 0) whole rise) same
    (subst (λ (xs : List Run). end_from 0 xs < r.end) whole less)))

abbrev pub run_at : List Run → ℕ → Run
run_at runs i = slice_index_or runs i (record { end = 0; link = 0 })

-- the place of the first run that ends above a rank
pub link_at-found : (start : ℕ) (runs : List Run) (n low : ℕ) → low < length runs
    → ((m : ℕ) → m < low → (run_at runs m).end ≤ n) → n < (run_at runs low).end
    → link_at runs n ≡ (run_at runs low).link
link_at-found start [] n low within before here = absurd (omega (arith, within))
link_at-found start (x ∷ rs) n zero within before here = link_at-here x rs n here
link_at-found start (x ∷ rs) n (suc low) within before here =
    link_at-past x rs n (before zero (omega arith))
    ∙ link_at-found start rs n low (omega (arith, within)) (λ m early.
    before (suc m) (omega (arith, early))) here

-- later runs end later
pub ends_rise : (start : ℕ) (runs : List Run) (i j : ℕ) → RiseFrom start runs → i ≤ j
    → j < length runs → (run_at runs i).end ≤ (run_at runs j).end
ends_rise start [] i j rise order within = absurd (omega (arith, within))
ends_rise start (x ∷ rs) zero zero rise order within = omega arith
ends_rise start (x ∷ rs) zero (suc j) rise order within = from_first j (omega (arith, within))
  where
    from_first : (j : ℕ) → j < length rs → x.end ≤ (run_at rs j).end
    from_first j short = above x.end rs j rise.1 short
      where
        above : (low : ℕ) (ys : List Run) (k : ℕ) → RiseFrom low ys → k < length ys
            → low ≤ (run_at ys k).end
        above low [] k up short = absurd (omega (arith, short))
        above low (y ∷ ys) zero up short = let less = up.0 in omega (arith, less)
        above low (y ∷ ys) (suc k) up short = let less = up.0 in let later =
            above y.end ys k up.1 (omega (arith, short)) in omega (arith, less, later)
ends_rise start (x ∷ rs) (suc i) zero rise order within = absurd (omega (arith, order))
ends_rise start (x ∷ rs) (suc i) (suc j) rise order within =
    ends_rise x.end rs i j rise.1 (omega (arith, order)) (omega (arith, within))

-- where no run ends above a rank, they end there at the latest
pub end_from-below : (start : ℕ) (runs : List Run) (n : ℕ) → start ≤ n
    → ((m : ℕ) → m < length runs → (run_at runs m).end ≤ n) → end_from start runs ≤ n
end_from-below start [] n from before = from
end_from-below start (x ∷ rs) n from before =
    end_from-below x.end rs n (before zero (omega arith)) (λ m within.
    before (suc m) (omega (arith, within)))

-- what is left of runs from a place on, which begins at a rank
pub record Rest (runs : List Run) (i start total : ℕ) : Type 0 where
  pub within : i ≤ length runs
  pub rise : RiseFrom start (drop i runs)
  pub ends : end_from start (drop i runs) ≡ total
  pub same : (n : ℕ) → start ≤ n → link_at runs n ≡ link_at (drop i runs) n

pub Rest-start : (runs : List Run) (total : ℕ) → RiseFrom 0 runs → end_from 0 runs ≡ total
    → Rest runs 0 0 total
Rest-start runs total rise ends = record {
  within = omega arith;
  rise = rise;
  ends = ends;
  same =
      λ n from. refl;
}

split : (runs : List Run) (i : ℕ) → i < length runs
    → drop i runs ≡ run_at runs i ∷ drop (suc i) runs
split runs i within = drop-cons runs i (record { end = 0; link = 0 }) within

pub Rest-here : (runs : List Run) (i start total n : ℕ) → Rest runs i start total → i < length runs
    → start ≤ n → n < (run_at runs i).end → link_at runs n ≡ (run_at runs i).link
Rest-here runs i start total n rest within from below =
    rest.same n from ∙ ap (λ (xs : List Run).
    link_at xs n) (split runs i within) ∙ link_at-here (run_at runs i) (drop (suc i) runs) n
    below

pub Rest-above : (runs : List Run) (i start total : ℕ) → Rest runs i start total → i < length runs
    → start < (run_at runs i).end
Rest-above runs i start total rest within =
    (subst (RiseFrom start) (split runs i within) rest.rise).0

-- past the next run
pub Rest-next : (runs : List Run) (i start total e : ℕ) → Rest runs i start total → i < length runs
    → (run_at runs i).end ≡ e → Rest runs (i + 1) e total
Rest-next runs i start total e rest within is =
    subst (λ (k : ℕ). Rest runs k e total) (sym (add-one i)) (record {
      within = omega (arith, within);
      rise = subst (λ (s : ℕ). RiseFrom s (drop (suc i) runs)) is
          (subst (RiseFrom start) (split runs i within) rest.rise).1;
      ends = sym (ap (λ (s : ℕ). end_from s (drop (suc i) runs)) is) ∙ sym
          (ap (end_from start) (split runs i within)) ∙ rest.ends;
      same = λ n from. rest.same n (let up = Rest-above runs i start total rest within in
          omega (arith, up, is, from)) ∙ ap (λ (xs : List Run). link_at xs n) (split runs i within)
          ∙ link_at-past (run_at runs i) (drop (suc i) runs) n (omega (arith, is, from));
    })

-- inside the next run
pub Rest-inside : (runs : List Run) (i start total e : ℕ) → Rest runs i start total
    → i < length runs → start ≤ e → e < (run_at runs i).end → Rest runs i e total
Rest-inside runs i start total e rest within from below = record {
  within = rest.within;
  rise = subst (RiseFrom e) (sym (split runs i within))
      (below, (subst (RiseFrom start) (split runs i within) rest.rise).1);
  ends = ap (end_from e) (split runs i within) ∙ sym
      (ap (end_from start) (split runs i within)) ∙ rest.ends;
  same = λ n above. rest.same n (omega (arith, from, above));
}

-- with nothing left
pub Rest-end : (runs : List Run) (i start total : ℕ) → Rest runs i start total → length runs ≤ i
    → start ≡ total
Rest-end runs i start total rest past = sym (ap (end_from start) (drop_all i runs past)) ∙ rest.ends

-- each run's number stands at some rank
pub run_number : (start : ℕ) (runs : List Run) (i : ℕ) → RiseFrom start runs → i < length runs
    → (n : ℕ) × (start ≤ n) × (n < end_from start runs) × (link_at runs n ≡ (run_at runs i).link)
run_number start [] i rise within = absurd (omega (arith, within))
run_number start (x ∷ rs) zero rise within = let less = rise.0 in let far =
    end_from-above x.end rs rise.1 in
    (start, omega arith, omega (arith, less, far), link_at-here x rs start less)
run_number start (x ∷ rs) (suc i) rise within =
    let rest = run_number x.end rs i rise.1 (omega (arith, within)) in
    let from = rest.1 in
    let less = rise.0 in
    (rest.0, omega (arith, from, less), rest.2, link_at-past x rs rest.0 from ∙ rest.3)

-- the number at a rank is some run's
pub number_run : (start : ℕ) (runs : List Run) (n : ℕ) → n < end_from start runs → start ≤ n
    → (i : ℕ) × (i < length runs) × ((run_at runs i).link ≡ link_at runs n)
number_run start [] n below from = absurd (omega (arith, below, from))
number_run start (x ∷ rs) n below from =
    go (cases_lt n x.end) (λ past. number_run x.end rs n below past)
  where
    go : (n < x.end) ⊎ (x.end ≤ n) → (x.end ≤ n
        → (i : ℕ) × (i < length rs) × ((run_at rs i).link ≡ link_at rs n))
        → (i : ℕ) × (i < length (x ∷ rs)) × ((run_at (x ∷ rs) i).link ≡ link_at (x ∷ rs) n)
    go (inl here) later = (zero, omega arith, sym (link_at-here x rs n here))
    go (inr past) later = let rest = later past in let within = rest.1 in
        (suc rest.0, omega (arith, within), rest.2 ∙ sym (link_at-past x rs n past))

-- the next run ends within
pub Rest-within : (runs : List Run) (i start total : ℕ) → Rest runs i start total → i < length runs
    → (run_at runs i).end ≤ total
Rest-within runs i start total rest within =
    let after = Rest-next runs i start total (run_at runs i).end rest within refl in
    let above = end_from-above (run_at runs i).end (drop (i + 1) runs) after.rise in
    omega (arith, above, after.ends)
