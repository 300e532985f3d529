-- Runs told by their counts.
use Rattle.std.proofs.Common.{◌≡◌, ℕ, zero, suc, ◌+◌, ◌-◌, ◌^◌, ◌<◌, ◌≤◌, Bool, cond, List, [], ◌∷◌}
use Rattle.std.proofs.Common.{◌++◌, length, take, refl, sym, ◌∙◌, ap, subst, arith, inl, inr}
use Rattle.std.proofs.Common.{length-append}
use Rattle.std.specs.Prelude.{◌⊎◌, slice_index_or}
use Rattle.std.proofs.lemmas.Bool.{cases_lt, lt-ltb, le-ltb}
use Rattle.std.proofs.lemmas.List.{get_or_append_left}
use Rattle.std.proofs.lemmas.List.Elements.{All-weaker}
use Rattle.std.proofs.Math.Seq.{get_or-append_seam}
use Rattle.dl_syntax.specs.declared.names.IndId.{IndId}
use Rattle.answer_tables.specs.declared.run.Run.{Run}
use Rattle.answer_tables.specs.Runs.{link_at, end_from, RiseFrom, NamedBelow, Extended}
use Rattle.answer_tables.specs.Counts.{counted_antichain, count_of}
use Rattle.answer_tables.specs.Tuples.{IsTuple, number}
use Rattle.answer_tables.specs.Table.{Antichains, at, AreRuns, AreUsed, antichain_at, view_of}
use Rattle.answer_tables.proofs.Runs.{Extended-pushed, link_at-named}
use Rattle.answer_tables.proofs.Numbers.{tuple_below}
use Rattle.answer_tables.proofs.Views.{at_view}

abbrev pub Count : Type 0
Count = ℕ × List ℕ

here : (r : Count) (rs : List Count) (n : ℕ) → n < r.0 → counted_antichain (r ∷ rs) n ≡ r.1
here r rs n less = ap (λ (b : Bool). cond b r.1 (counted_antichain rs (n - r.0)))
    (lt-ltb n r.0 less)

past : (r : Count) (rs : List Count) (n : ℕ) → r.0 ≤ n
    → counted_antichain (r ∷ rs) n ≡ counted_antichain rs (n - r.0)
past r rs n more = ap (λ (b : Bool). cond b r.1 (counted_antichain rs (n - r.0)))
    (le-ltb n r.0 more)

count_cons : (r : Count) (rs : List Count) → count_of (r ∷ rs) ≡ r.0 + count_of rs
count_cons r rs = refl

counted-before : (front more : List Count) (n : ℕ) → n < count_of front
    → counted_antichain (front ++ more) n ≡ counted_antichain front n
counted-before [] more n below = absurd (omega (arith, below))
counted-before (r ∷ front) more n below =
    go (cases_lt n r.0) (λ le. counted-before front more (n - r.0) (let e = count_cons r front in
    omega (arith, below, le, e)))
  where
    go : (n < r.0) ⊎ (r.0 ≤ n) → (r.0 ≤ n
        → counted_antichain (front ++ more) (n - r.0) ≡ counted_antichain front (n - r.0))
        → counted_antichain (r ∷ (front ++ more)) n ≡ counted_antichain (r ∷ front) n
    go (inl less) rest = here r (front ++ more) n less ∙ sym (here r front n less)
    go (inr le) rest = past r (front ++ more) n le ∙ rest le ∙ sym (past r front n le)

counted-since : (front : List Count) (r : Count) (n : ℕ) → count_of front ≤ n
    → n < count_of front + r.0 → counted_antichain (front ++ r ∷ []) n ≡ r.1
counted-since [] r n from below = here r [] n (omega (arith, below))
counted-since (x ∷ front) r n from below =
    past x (front ++ r ∷ []) n (let e = count_cons x front in
    omega (arith, from, e)) ∙ counted-since front r (n - x.0) (let e = count_cons x front in
    omega (arith, from, e)) (let e = count_cons x front in omega (arith, from, below, e))

pub count_of-take : (runs : List Count) (i : ℕ) → count_of (take i runs) ≤ count_of runs
count_of-take runs zero = omega arith
count_of-take [] (suc i) = omega arith
count_of-take (r ∷ runs) (suc i) = let rest = count_of-take runs i in let e = count_cons r runs in
    let d = count_cons r (take i runs) in omega (arith, rest, e, d)

pub count_of-push : (front : List Count) (r : Count)
    → count_of (front ++ r ∷ []) ≡ count_of front + r.0
count_of-push [] r = let e = count_cons r [] in omega (arith, e)
count_of-push (x ∷ front) r = let rest = count_of-push front r in let e = count_cons x front in
    let d = count_cons x (front ++ r ∷ []) in omega (arith, rest, e, d)

pub record Counted (front : List Count) (links : List (List ℕ)) (ends : List Run) (end : ℕ) : Type 0
  where
    pub rise : RiseFrom 0 ends
    pub last : end_from 0 ends ≡ end
    pub total : end ≡ count_of front
    pub named : NamedBelow (length links) ends
    pub used : (i : ℕ) → i < length links → (n : ℕ) × (n < end) × (link_at ends n ≡ i)
    pub each : (n : ℕ) → n < end → antichain_at links ends n ≡ counted_antichain front n

pub Counted-start : (links : List (List ℕ)) (ends : List Run) → links ≡ [] → ends ≡ []
    → Counted [] links ends 0
Counted-start links ends no_links no_ends =
    subst (λ (l : List (List ℕ)). Counted [] l ends 0) (sym no_links)
    (subst (λ (es : List Run). Counted [] [] es 0) (sym no_ends) (record {
      rise = tt;
      last = refl;
      total = refl;
      named = λ k d within. absurd (omega (arith, within));
      used = λ i within. absurd (omega (arith, within));
      each = λ n below. absurd (omega (arith, below));
    }))

pub Counted-more : (front : List Count) (links links' : List (List ℕ)) (ends ends' : List Run)
    (end : ℕ) (r : Count) → Counted front links ends end → 1 ≤ r.0 → links' ≡ links ++ r.1 ∷ []
    → ends' ≡ ends ++ (record { end = end + r.0; link = length links }) ∷ []
    → Counted (front ++ r ∷ []) links' ends' (end + r.0)
Counted-more front links links' ends ends' end r counted some more_links more_ends =
    subst (λ (l : List (List ℕ)). Counted (front ++ r ∷ []) l ends' (end + r.0)) (sym more_links)
    (subst (λ (es : List Run). Counted (front ++ r ∷ []) (links ++ r.1 ∷ []) es (end + r.0))
    (sym more_ends) (record {
      rise = extended.rise;
      last = extended.ends;
      total = ap (λ (k : ℕ). k + r.0) counted.total ∙ sym (count_of-push front r);
      named = extended.named (length (links ++ r.1 ∷ []))
          (All-weaker (λ (x : Run). x.link < length links) (λ (x : Run).
          x.link < length (links ++ r.1 ∷ [])) (λ x small.
          omega (arith, small, length-append links (r.1 ∷ []))) ends counted.named)
          (omega (arith, length-append links (r.1 ∷ [])));
      used = λ i within. used i (omega (arith, within, length-append links (r.1 ∷ [])))
          (cases_lt i (length links));
      each = λ n below. each n below (cases_lt n end);
    }))
  where
    extended : Extended ends (record {
      end = end + r.0;
      link =
          length links;
    }) (ends ++ (record { end = end + r.0; link = length links }) ∷ [])
    extended = Extended-pushed ends (record {
      end = end + r.0;
      link =
          length links;
    }) counted.rise (omega (arith, counted.last, some))

    used : (i : ℕ) → i < length links + 1 → (i < length links) ⊎ (length links ≤ i)
        → (n : ℕ) × (n < end + r.0)
        × (link_at (ends ++ (record { end = end + r.0; link = length links }) ∷ []) n ≡ i)
    used i within (inl early) =
        let found = counted.used i early in (
          found.0,
          (let l = found.1 in omega (arith, l)),
          extended.before found.0 (let l = found.1 in
              omega (arith, l, counted.last)) ∙ found.2,
        )
    used i within (inr late) = (
      end,
      omega (arith, some),
      extended.since end (omega (arith, counted.last))
          (omega (arith, some)) ∙ omega (arith, within, late),
    )

    each : (n : ℕ) → n < end + r.0 → (n < end) ⊎ (end ≤ n)
        → antichain_at (links ++ r.1 ∷ [])
        (ends ++ (record { end = end + r.0; link = length links }) ∷ []) n
        ≡ counted_antichain (front ++ r ∷ []) n
    each n below (inl early) =
        ap (λ (k : ℕ). slice_index_or (links ++ r.1 ∷ []) k [])
        (extended.before n (omega (arith, early, counted.last)))
        ∙ get_or_append_left links (r.1 ∷ []) [] (link_at ends n)
        (link_at-named 0 ends (length links) n counted.named (omega arith)
        (omega (arith, early, counted.last)))
        ∙ counted.each n early ∙ sym (counted-before front (r ∷ []) n
        (omega (arith, early, counted.total)))
    each n below (inr late) =
        ap (λ (k : ℕ). slice_index_or (links ++ r.1 ∷ []) k [])
        (extended.since n (omega (arith, late, counted.last)) below)
        ∙ get_or-append_seam links r.1 [] [] ∙ sym
        (counted-since front r n (omega (arith, late, counted.total))
        (omega (arith, below, counted.total)))

module _ (slots arity : ℕ) (runs : List Count) (links : List (List ℕ)) (ends : List Run) (end : ℕ)
    (counted : Counted runs links ends end) (whole : count_of runs
    ≡ slots ^ arity) (few : slots ^ arity ≤ 2 ^ 60) where
  pub AreRuns-counted : AreRuns slots arity links ends
  AreRuns-counted = record {
    rise = counted.rise;
    ends = counted.last ∙ counted.total ∙ whole;
    few =
        few;
    named = counted.named;
  }

  pub AreUsed-counted : AreUsed (slots ^ arity) (length links) ends
  AreUsed-counted i within = let found = counted.used i within in
      (found.0, (let l = found.1 in omega (arith, l, counted.total, whole)), found.2)

  pub at_counted : (t : Antichains) → t ≡ view_of slots arity links ends → (tuple : List IndId)
      → IsTuple slots arity tuple → at t tuple ≡ counted_antichain runs (number slots tuple)
  at_counted t is tuple tup =
      ap (λ (v : Antichains). at v tuple) is ∙ at_view slots arity links ends tuple
      tup ∙ counted.each (number slots tuple)
      (omega (arith, tuple_below slots arity tuple tup, counted.total, whole))
