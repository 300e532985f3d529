-- The antichains of all tuples, as runs of equal ones.
use Rattle.std.proofs.Common.{◌≡◌, ℕ, zero, suc, ◌+◌, ◌-◌, ◌^◌, ◌<◌, ◌≤◌, Bool, cond, List, [], ◌∷◌}
use Rattle.std.proofs.Common.{◌++◌, length, replicate, refl, sym, ◌∙◌, ap, subst, arith}
use Rattle.std.proofs.Common.{append_assoc, inl, inr}
use Rattle.std.specs.Prelude.{◌≢◌, All, map, slice_index_or}
use Rattle.std.specs.List.{Contains}
use Rattle.std.proofs.lemmas.Bool.{cases_lt, lt-ltb, le-ltb}
use Rattle.std.proofs.lemmas.List.{append-nil}
use Rattle.std.proofs.lemmas.List.Elements.{All-push, All-nil}
use Rattle.list_lemmas.proofs.Elements.{Contains-first, Contains-later}
use Rattle.dl_syntax.specs.declared.names.IndId.{IndId}
use Rattle.answer_tables.specs.declared.run.Run.{Run}
use Rattle.answer_tables.specs.Counts.{counted_antichain, count_of}
use Rattle.answer_tables.specs.Lengths.{antichains_in, spread_out, AreApart, AreRunsOf, RunsAreTold}
use Rattle.answer_tables.specs.Lengths.{CountedAreSpread, AntichainsTell}
use Rattle.answer_tables.specs.Table.{Antichains, HasAntichain, IsTable, at, antichain_at}
use Rattle.answer_tables.specs.Table.{view_of}
use Rattle.answer_tables.specs.Tuples.{IsTuple, number, tuples}
use Rattle.answer_tables.proofs.LinkLists.{InARow, numbers_apart, tuples_many, tuples_row}
use Rattle.answer_tables.proofs.Numbers.{Contains-map, all_tuples, from_map, only_tuples}
use Rattle.answer_tables.proofs.Ranks.{no_run}
use Rattle.answer_tables.proofs.Runs.{Rest, Rest-start, Rest-here, Rest-above, Rest-next, Rest-end}
use Rattle.answer_tables.proofs.Runs.{run_at}
use Rattle.answer_tables.proofs.Views.{at_view}

abbrev pub Count : Type 0
Count = ℕ × List ℕ

-- ---- the antichains by rank

-- so many antichains from a rank on
abbrev pub between : (ℕ → List ℕ) → ℕ → ℕ → List (List ℕ)
between antichain start zero = []
between antichain start (suc k) = antichain start ∷ between antichain (suc start) k

between_split : (antichain : ℕ → List ℕ) (start a b : ℕ) → between antichain start (a + b)
    ≡ between antichain start a ++ between antichain (start + a) b
between_split antichain start zero b =
    ap (between antichain start) (omega arith) ∙ ap (λ (s : ℕ).
    between antichain s b) (omega arith)
between_split antichain start (suc a) b =
    ap (between antichain start) (let e : suc a + b ≡ suc (a + b) = omega arith in e)
    ∙ ap (λ (xs : List (List ℕ)). antichain start ∷ xs)
    (between_split antichain (suc start) a b ∙ ap (λ (s : ℕ).
    between antichain (suc start) a ++ between antichain s b) (omega arith))

between_same : (antichain : ℕ → List ℕ) (x : List ℕ) (start k : ℕ)
    → ((n : ℕ) → start ≤ n → n < start + k → antichain n ≡ x)
    → between antichain start k ≡ replicate k x
between_same antichain x start zero same = refl
between_same antichain x start (suc k) same =
    ap (λ (y : List ℕ). y ∷ between antichain (suc start) k)
    (same start (omega arith) (omega arith))
    ∙ ap (λ (xs : List (List ℕ)). x ∷ xs)
    (between_same antichain x (suc start) k (λ n from below.
    same n (omega (arith, from)) (omega (arith, below))))

map_row : (f : List IndId → List ℕ) (antichain : ℕ → List ℕ) (slots start : ℕ)
    (ts : List (List IndId)) → InARow slots start ts
    → ((t : List IndId) → Contains ts t → f t ≡ antichain (number slots t))
    → map f ts ≡ between antichain start (length ts)
map_row f antichain slots start [] row each = refl
map_row f antichain slots start (t ∷ ts) row each =
    ap (λ (x : List ℕ). x ∷ map f ts) (each t (Contains-first t ts) ∙ ap antichain row.0)
    ∙ ap (λ (xs : List (List ℕ)). antichain start ∷ xs)
    (map_row f antichain slots (suc start) ts row.1 (λ u there.
    each u (Contains-later t ts u there)))

-- a table's antichains by rank
by_rank : (table : Antichains) (antichain : ℕ → List ℕ)
    → ((tuple : List IndId) → IsTuple table.slots table.arity tuple
    → at table tuple ≡ antichain (number table.slots tuple))
    → antichains_in table ≡ between antichain 0 (table.slots ^ table.arity)
by_rank table antichain each =
    map_row (at table) antichain table.slots 0 (tuples table.slots table.arity)
    (tuples_row table.slots table.arity) (λ t there.
    each t (only_tuples table.slots table.arity t there))
    ∙ ap (between antichain 0) (tuples_many table.slots table.arity)

pub antichains_view : (slots arity : ℕ) (links : List (List ℕ)) (runs : List Run)
    → antichains_in (view_of slots arity links runs)
    ≡ between (antichain_at links runs) 0 (slots ^ arity)
antichains_view slots arity links runs =
    by_rank (view_of slots arity links runs) (antichain_at links runs)
    (at_view slots arity links runs)

-- ---- runs that grow

apart_counted : (front : List Count) (a b : ℕ) (x : List ℕ) → AreApart (front ++ (a, x) ∷ [])
    → AreApart (front ++ (b, x) ∷ [])
apart_counted [] a b x apart = tt
apart_counted (r ∷ []) a b x apart = apart
apart_counted (r ∷ (s ∷ front)) a b x apart =
    (apart.0, apart_counted (s ∷ front) a b x apart.1)

apart_more : (front : List Count) (a b : ℕ) (x y : List ℕ) → AreApart (front ++ (a, x) ∷ [])
    → x ≢ y → AreApart ((front ++ (a, x) ∷ []) ++ (b, y) ∷ [])
apart_more [] a b x y apart differ = (differ, tt)
apart_more (r ∷ []) a b x y apart differ = (apart.0, (differ, tt))
apart_more (r ∷ (s ∷ front)) a b x y apart differ =
    (apart.0, apart_more (s ∷ front) a b x y apart.1 differ)

spread_push : (front : List Count) (r : Count)
    → spread_out (front ++ r ∷ []) ≡ spread_out front ++ replicate r.0 r.1
spread_push [] r = append-nil (replicate r.0 r.1)
spread_push (x ∷ front) r =
    ap (λ (xs : List (List ℕ)). replicate x.0 x.1 ++ xs) (spread_push front r)
    ∙ sym (append_assoc (replicate x.0 x.1) (spread_out front) (replicate r.0 r.1))

-- the runs before the one that began at a rank, and up to another rank has an antichain
pub record Grown (antichain : ℕ → List ℕ) (front : List Count) (x : List ℕ) (begin end : ℕ)
    : Type 0 where
  pub some : begin < end
  pub counted : All (λ r. 1 ≤ r.0) front
  pub apart : AreApart (front ++ (1, x) ∷ [])
  pub all : spread_out front ≡ between antichain 0 begin
  pub same : (n : ℕ) → begin ≤ n → n < end → antichain n ≡ x

pub Grown-start : (antichain : ℕ → List ℕ) (front : List Count) (x : List ℕ) (end : ℕ)
    → front ≡ [] → 0 < end → ((n : ℕ) → n < end → antichain n ≡ x) → Grown antichain front x 0 end
Grown-start antichain front x end none some same =
    subst (λ (f : List Count). Grown antichain f x 0 end) (sym none) (record {
      some = some;
      counted = All-nil (λ (r : Count). 1 ≤ r.0);
      apart = tt;
      all = refl;
      same = λ n from below. same n below;
    })

pub Grown-longer : (antichain : ℕ → List ℕ) (front : List Count) (x : List ℕ) (begin end more : ℕ)
    → Grown antichain front x begin end → end ≤ more
    → ((n : ℕ) → end ≤ n → n < more → antichain n ≡ x) → Grown antichain front x begin more
Grown-longer antichain front x begin end more grown up same = record {
  some = omega (arith, grown.some, up);
  counted = grown.counted;
  apart = grown.apart;
  all = grown.all;
  same = λ n from below. elim (cases_lt n end) [
    | inl early ↦ grown.same n from early
    | inr late ↦ same n late below
  ];
}

counted_more : (front : List Count) (begin end : ℕ) (x : List ℕ) → All (λ r. 1 ≤ r.0) front
    → begin < end → All (λ r. 1 ≤ r.0) (front ++ (end - begin, x) ∷ [])
counted_more front begin end x counted some =
    All-push (λ (r : Count). 1 ≤ r.0) front (end - begin, x) counted (omega (arith, some))

spread_more : (antichain : ℕ → List ℕ) (front : List Count) (x : List ℕ) (begin end : ℕ)
    → Grown antichain front x begin end
    → spread_out (front ++ (end - begin, x) ∷ []) ≡ between antichain 0 end
spread_more antichain front x begin end grown =
    let whole : begin + (end - begin) ≡ end = omega (arith, grown.some) in
    spread_push front (end - begin, x)
    ∙ ap (λ (xs : List (List ℕ)). xs ++ replicate (end - begin) x) grown.all
    ∙ ap (λ (xs : List (List ℕ)). between antichain 0 begin ++ xs)
    (sym (between_same antichain x begin (end - begin) (λ n from below.
    grown.same n from (omega (arith, below, whole)))))
    ∙ ap (λ (s : ℕ). between antichain 0 begin ++ between antichain s (end - begin))
    (let e : begin ≡ 0 + begin = omega arith in e)
    ∙ sym (between_split antichain 0 begin (end - begin))
    ∙ ap (between antichain 0) whole

-- past the end of a run, and a longer one behind it
pub Grown-next : (antichain : ℕ → List ℕ) (front new : List Count) (x y : List ℕ)
    (begin end more : ℕ) → Grown antichain front x begin end → x ≢ y → end < more
    → ((n : ℕ) → end ≤ n → n < more → antichain n ≡ y) → new ≡ front ++ (end - begin, x) ∷ []
    → Grown antichain new y end more
Grown-next antichain front new x y begin end more grown differ up same is =
    subst (λ (f : List Count). Grown antichain f y end more) (sym is) (record {
      some = up;
      counted = counted_more front begin end x grown.counted grown.some;
      apart = apart_more front (end - begin) 1 x y
          (apart_counted front 1 (end - begin) x grown.apart) differ;
      all = spread_more antichain front x begin end grown;
      same = same;
    })

-- the last run at the end
pub Grown-end : (antichain : ℕ → List ℕ) (front new : List Count) (x : List ℕ) (begin end : ℕ)
    → Grown antichain front x begin end → new ≡ front ++ (end - begin, x) ∷ []
    → AreRunsOf (between antichain 0 end) new
Grown-end antichain front new x begin end grown is =
    subst (AreRunsOf (between antichain 0 end)) (sym is) (record {
      some = counted_more front begin end x grown.counted grown.some;
      apart = apart_counted front 1 (end - begin) x grown.apart;
      all = spread_more antichain front x begin end grown;
    })

pub AreRunsOf-none : (antichain : ℕ → List ℕ) (new : List Count) (end : ℕ) → end ≡ 0 → new ≡ []
    → AreRunsOf (between antichain 0 end) new
AreRunsOf-none antichain new end none is =
    subst (AreRunsOf (between antichain 0 end)) (sym is) (record {
      some = All-nil (λ (r : Count). 1 ≤ r.0);
      apart = tt;
      all = sym (ap (between antichain 0) none);
    })

-- what is done of a table's ranks before a place: the last run that is there isn't in the list yet
pub record Growing (slots arity : ℕ) (links : List (List ℕ)) (runs : List Run) (list : List Count)
    (link begin end place : ℕ) : Type 0 where
  pub grown : Grown (antichain_at links runs) list (slice_index_or links link []) begin end
  pub rest : Rest runs place end (slots ^ arity)
  pub named : link < length links

module _ (slots arity : ℕ) (links : List (List ℕ)) (runs : List Run)
    (is : IsTable slots arity links runs) where
  named_run : (i : ℕ) → i < length runs → (run_at runs i).link < length links
  named_run i within = is.are.named i (record { end = 0; link = 0 }) within

  here : (i start n : ℕ) → Rest runs i start (slots ^ arity) → i < length runs → start ≤ n
      → n < (run_at runs i).end
      → antichain_at links runs n ≡ slice_index_or links (run_at runs i).link []
  here i start n rest within from below =
      ap (λ (k : ℕ). slice_index_or links k [])
      (Rest-here runs i start (slots ^ arity) n rest within from below)

  pub growing_start : (list : List Count) → list ≡ [] → 0 < length runs
      → Growing slots arity links runs list (run_at runs 0).link 0 (run_at runs 0).end 1
  growing_start list none some =
      let rest = Rest-start runs (slots ^ arity) is.are.rise is.are.ends in
      record {
        grown = Grown-start (antichain_at links runs) list
            (slice_index_or links (run_at runs 0).link []) (run_at runs 0).end none
            (Rest-above runs 0 0 (slots ^ arity) rest some)
            (λ n below. here 0 0 n rest some (omega arith) below);
        rest = Rest-next runs 0 0 (slots ^ arity) (run_at runs 0).end rest some refl;
        named = named_run 0 some;
      }

  pub growing_same : (list : List Count) (link begin end place : ℕ)
      → Growing slots arity links runs list link begin end place → place < length runs
      → (run_at runs place).link ≡ link
      → Growing slots arity links runs list link begin (run_at runs place).end (place + 1)
  growing_same list link begin end place growing within same =
      let above = Rest-above runs place end (slots ^ arity) growing.rest within in
      record {
        grown = Grown-longer (antichain_at links runs) list (slice_index_or links link []) begin end
            (run_at runs place).end growing.grown (omega (arith, above)) (λ n from below.
            here place end n growing.rest within from below
            ∙ ap (λ (k : ℕ). slice_index_or links k []) same);
        rest = Rest-next runs place end (slots ^ arity) (run_at runs place).end growing.rest within
            refl;
        named = growing.named;
      }

  pub growing_next : (list new : List Count) (link begin end place : ℕ)
      → Growing slots arity links runs list link begin end place → place < length runs
      → ¬ ((run_at runs place).link ≡ link)
      → new ≡ list ++ (end - begin, slice_index_or links link []) ∷ []
      → Growing slots arity links runs new (run_at runs place).link end (run_at runs place).end
      (place + 1)
  growing_next list new link begin end place growing within differ more = record {
    grown = Grown-next (antichain_at links runs) list new (slice_index_or links link [])
        (slice_index_or links (run_at runs place).link []) begin end (run_at runs place).end
        growing.grown
        (numbers_apart links link (run_at runs place).link is.distinct growing.named
        (named_run place within) (λ same. differ (sym same)))
        (Rest-above runs place end (slots ^ arity) growing.rest within)
        (λ n from below. here place end n growing.rest within from below) more;
    rest = Rest-next runs place end (slots ^ arity) (run_at runs place).end growing.rest within
        refl;
    named = named_run place within;
  }

  pub growing_end : (v : Antichains) → view_of slots arity links runs ≡ v
      → (list new : List Count) (link begin end place : ℕ)
      → Growing slots arity links runs list link begin end place → length runs ≤ place
      → new ≡ list ++ (end - begin, slice_index_or links link []) ∷ []
      → AreRunsOf (antichains_in v) new
  growing_end v view list new link begin end place growing past more =
      subst (λ (xs : List (List ℕ)). AreRunsOf xs new)
      (ap (between (antichain_at links runs) 0)
      (Rest-end runs place end (slots ^ arity) growing.rest past)
      ∙ sym (antichains_view slots arity links runs) ∙ ap antichains_in view)
      (Grown-end (antichain_at links runs) list new (slice_index_or links link []) begin end
      growing.grown more)

  pub growing_none : (v : Antichains) → view_of slots arity links runs ≡ v → (list : List Count)
      → list ≡ [] → length runs ≡ 0 → AreRunsOf (antichains_in v) list
  growing_none v view list none empty =
      subst (λ (xs : List (List ℕ)). AreRunsOf xs list)
      (sym (antichains_view slots arity links runs) ∙ ap antichains_in view)
      (AreRunsOf-none (antichain_at links runs) list (slots ^ arity)
      (no_run runs slots arity links is.are empty) none)

-- ---- what runs spread out to tells them

abbrev IsOther : List ℕ → List (List ℕ) → Type 0
IsOther x [] = Unit {0}
IsOther x (y ∷ ys) = y ≢ x

strip : (x : List ℕ) (a b : ℕ) (xs ys : List (List ℕ)) → IsOther x xs → IsOther x ys
    → replicate a x ++ xs ≡ replicate b x ++ ys → (a ≡ b) × (xs ≡ ys)
strip x zero zero xs ys one two same = (refl, same)
strip x zero (suc b) [] ys one two same = absurd (cc)
strip x zero (suc b) (y ∷ xs) ys one two same = absurd (one (cc))
strip x (suc a) zero xs [] one two same = absurd (cc)
strip x (suc a) zero xs (y ∷ ys) one two same = absurd (two (cc))
strip x (suc a) (suc b) xs ys one two same =
    let less : replicate a x ++ xs ≡ replicate b x ++ ys = cc in
    let rest = strip x a b xs ys one two less in
    (ap suc rest.0, rest.1)

other_next : (r : Count) (rs : List Count) → AreApart (r ∷ rs) → All (λ s. 1 ≤ s.0) rs
    → IsOther r.1 (spread_out rs)
other_next r [] apart counted = tt
other_next r (s ∷ rs) apart counted = go s.0 (counted zero s (omega arith))
  where
    go : (n : ℕ) → 1 ≤ n → IsOther r.1 (replicate n s.1 ++ spread_out rs)
    go zero some = absurd (omega (arith, some))
    go (suc n) some = λ same. apart.0 (sym same)

some_head : (a b : ℕ) (x y : List ℕ) (xs ys : List (List ℕ)) → 1 ≤ a → 1 ≤ b
    → replicate a x ++ xs ≡ replicate b y ++ ys → x ≡ y
some_head zero b x y xs ys one two same = absurd (omega (arith, one))
some_head (suc a) zero x y xs ys one two same = absurd (omega (arith, two))
some_head (suc a) (suc b) x y xs ys one two same = cc

not_empty : (a : ℕ) (x : List ℕ) (xs : List (List ℕ)) → 1 ≤ a → [] ≢ replicate a x ++ xs
not_empty zero x xs some same = omega (arith, some)
not_empty (suc a) x xs some same = cc

All-rest : (r : Count) (rs : List Count) → All (λ s. 1 ≤ s.0) (r ∷ rs) → All (λ s. 1 ≤ s.0) rs
All-rest r rs all k d within = all (suc k) d (omega (arith, within))

apart_rest : (r : Count) (rs : List Count) → AreApart (r ∷ rs) → AreApart rs
apart_rest r [] apart = tt
apart_rest r (s ∷ rs) apart = apart.1

told : (one other : List Count) → All (λ r. 1 ≤ r.0) one → All (λ r. 1 ≤ r.0) other
    → AreApart one → AreApart other → spread_out one ≡ spread_out other → one ≡ other
told [] [] some more apart far same = refl
told [] (s ∷ ss) some more apart far same =
    absurd (not_empty s.0 s.1 (spread_out ss) (more zero s (omega arith)) same)
told (r ∷ rs) [] some more apart far same =
    absurd (not_empty r.0 r.1 (spread_out rs) (some zero r (omega arith)) (sym same))
told (r ∷ rs) (s ∷ ss) some more apart far same =
    let head : r.1 ≡ s.1 = some_head r.0 s.0 r.1 s.1 (spread_out rs) (spread_out ss)
    (some zero r (omega arith)) (more zero s (omega arith)) same in
    let rest = strip r.1 r.0 s.0 (spread_out rs) (spread_out ss)
    (other_next r rs apart (All-rest r rs some))
    (subst (λ (x : List ℕ). IsOther x (spread_out ss)) (sym head)
    (other_next s ss far (All-rest s ss more)))
    (same ∙ ap (λ (x : List ℕ). replicate s.0 x ++ spread_out ss) (sym head)) in
    let first : r ≡ s =
    ap (λ (n : ℕ). (n, r.1)) rest.0 ∙ ap (λ (x : List ℕ). (s.0, x)) head in
    ap (λ (x : Count). x ∷ rs) first
    ∙ ap (λ (xs : List Count). s ∷ xs) (told rs ss (All-rest r rs some) (All-rest s ss more)
    (apart_rest r rs apart) (apart_rest s ss far) rest.1)

pub runs_told : RunsAreTold
runs_told antichains one other first second =
    told one other first.some second.some first.apart second.apart
    (first.all ∙ sym second.all)

-- ---- a table of counts

counted_here : (r : Count) (rs : List Count) (n : ℕ) → n < r.0
    → counted_antichain (r ∷ rs) n ≡ r.1
counted_here r rs n less = ap (λ (b : Bool). cond b r.1 (counted_antichain rs (n - r.0)))
    (lt-ltb n r.0 less)

counted_past : (r : Count) (rs : List Count) (n : ℕ) → r.0 ≤ n
    → counted_antichain (r ∷ rs) n ≡ counted_antichain rs (n - r.0)
counted_past r rs n more = ap (λ (b : Bool). cond b r.1 (counted_antichain rs (n - r.0)))
    (le-ltb n r.0 more)

counted_between : (antichain : ℕ → List ℕ) (start : ℕ) (runs : List Count)
    → ((n : ℕ) → n < count_of runs → antichain (start + n) ≡ counted_antichain runs n)
    → between antichain start (count_of runs) ≡ spread_out runs
counted_between antichain start [] each = refl
counted_between antichain start (r ∷ rs) each =
    between_split antichain start r.0 (count_of rs)
    ∙ ap (λ (xs : List (List ℕ)). xs ++ between antichain (start + r.0) (count_of rs))
    (between_same antichain r.1 start r.0 (λ n from below.
    let is : n ≡ start + (n - start) = omega (arith, from) in
    let less : n - start < r.0 = omega (arith, from, below) in
    ap antichain is ∙ each (n - start) (omega (arith, less))
    ∙ counted_here r rs (n - start) less))
    ∙ ap (λ (xs : List (List ℕ)). replicate r.0 r.1 ++ xs)
    (counted_between antichain (start + r.0) rs (λ n below.
    let is : start + r.0 + n ≡ start + (r.0 + n) = omega arith in
    let left : r.0 + n - r.0 ≡ n = omega arith in
    ap antichain is ∙ each (r.0 + n) (omega (arith, below))
    ∙ counted_past r rs (r.0 + n) (omega arith) ∙ ap (counted_antichain rs) left))

pub counted_spread : CountedAreSpread
counted_spread table runs whole each =
    by_rank table (counted_antichain runs) each
    ∙ ap (between (counted_antichain runs) 0) (sym whole)
    ∙ counted_between (counted_antichain runs) 0 runs (λ n below.
    ap (counted_antichain runs) (omega arith))

-- ---- each tuple's

map_tells : (f g : List IndId → List ℕ) (ts : List (List IndId)) (t : List IndId)
    → map f ts ≡ map g ts → Contains ts t → f t ≡ g t
map_tells f g [] t same there = absurd (let l = there.1 in omega (arith, l))
map_tells f g (u ∷ ts) t same (zero, within, is) =
    let head : f u ≡ g u = cc in
    subst (λ (v : List IndId). f v ≡ g v) is head
map_tells f g (u ∷ ts) t same (suc k, within, is) =
    let rest : map f ts ≡ map g ts = cc in
    map_tells f g ts t rest (k, omega (arith, within), is)

pub antichains_told : AntichainsTell
antichains_told one other slots arity same tuple is =
    map_tells (at one) (at other) (tuples one.slots one.arity) tuple
    (same ∙ ap (λ (n : ℕ). map (at other) (tuples n other.arity)) (sym slots)
    ∙ ap (λ (k : ℕ). map (at other) (tuples one.slots k)) (sym arity))
    (all_tuples one.slots one.arity tuple is)

-- ---- which antichains there are

pub many_antichains : (table : Antichains)
    → length (antichains_in table) ≡ table.slots ^ table.arity
many_antichains table =
    length_map (at table) (tuples table.slots table.arity)
    ∙ tuples_many table.slots table.arity
  where
    length_map : (f : List IndId → List ℕ) (ts : List (List IndId))
        → length (map f ts) ≡ length ts
    length_map f [] = refl
    length_map f (t ∷ ts) = ap suc (length_map f ts)

pub antichain_there : (table : Antichains) (tuple : List IndId)
    → IsTuple table.slots table.arity tuple → Contains (antichains_in table) (at table tuple)
antichain_there table tuple is =
    Contains-map (at table) (tuples table.slots table.arity) tuple
    (all_tuples table.slots table.arity tuple is)

pub antichain_of : (table : Antichains) (antichain : List ℕ)
    → Contains (antichains_in table) antichain → HasAntichain table antichain
antichain_of table antichain there =
    let found = from_map (at table) (tuples table.slots table.arity) antichain there in
    (found.0, only_tuples table.slots table.arity found.0 found.1, found.2)
