-- Runs that tell the antichains of many tables, and the antichains substituted at their ranks.
use Rattle.std.proofs.Common.{◌≡◌, ℕ, zero, suc, ◌+◌, ◌^◌, ◌<◌, ◌≤◌, List, [], ◌∷◌, ◌++◌, length}
use Rattle.std.proofs.Common.{get_or, true, false, nat_eq, refl, sym, ◌∙◌, ap, subst, arith, inl}
use Rattle.std.proofs.Common.{inr, length-append}
use Rattle.std.specs.Prelude.{◌⊎◌, All, slice_index_or}
use Rattle.std.proofs.lemmas.Bool.{cases_lt, true≢false, eqb-true, eq-eqb}
use Rattle.std.proofs.lemmas.List.{get_or_append_left}
use Rattle.std.proofs.lemmas.List.Elements.{All-nil, All-weaker, All-push}
use Rattle.std.proofs.Math.Seq.{get_or-append_seam}
use Rattle.dl_syntax.specs.declared.names.IndId.{IndId}
use Rattle.antichains.specs.Sets.{holds}
use Rattle.antichains.specs.Antichain.{IsMinimal, values_at}
use Rattle.answer_tables.specs.declared.run.Run.{Run}
use Rattle.answer_tables.specs.declared.align.Joint.{Joint}
use Rattle.answer_tables.specs.Runs.{link_at, end_from, NamedBelow}
use Rattle.answer_tables.specs.Joint.{joint_at, IsAligned}
use Rattle.answer_tables.specs.Tuples.{IsTuple, number}
use Rattle.answer_tables.specs.Table.{Antichains, at, AreRuns, AreUsed, view_of}
use Rattle.answer_tables.specs.Substituting.{HaveShape, antichains_at, Substitutes, Tells, TellAll}
use Rattle.answer_tables.specs.Substituting.{AreSubstituted}
use Rattle.answer_tables.proofs.Runs.{link_at-named}
use Rattle.answer_tables.proofs.Numbers.{tuple_below, tuple_at}
use Rattle.answer_tables.proofs.Views.{at_view}

-- a table's own runs tell its antichains
own_tells : (slots arity : ℕ) (links : List (List ℕ)) (runs : List Run) (v : Antichains)
    → view_of slots arity links runs ≡ v → Tells slots arity runs v
own_tells slots arity links runs v view t u is_t is_u same =
    ap (λ (w : Antichains). at w t) (sym view) ∙ at_view slots arity links runs t is_t ∙ ap
    (λ (k : ℕ). slice_index_or links k []) same
    ∙ sym (at_view slots arity links runs u is_u) ∙ ap (λ (w : Antichains). at w u) view

module _ (slots arity : ℕ) (a b runs : List Run) (joints : List Joint)
    (aligned : IsAligned a b runs joints) (whole : end_from 0 a ≡ slots ^ arity) where
  below : (t : List IndId) → IsTuple slots arity t → number slots t < end_from 0 a
  below t is = omega (arith, tuple_below slots arity t is, whole)

  first_tells : (v : Antichains) → Tells slots arity a v → Tells slots arity runs v
  first_tells v tells t u is_t is_u same =
      tells t u is_t is_u (sym (aligned.first (number slots t) (below t is_t)) ∙ ap (λ (k : ℕ).
      (joint_at joints k).first) same ∙ aligned.first (number slots u) (below u is_u))

  second_tells : (v : Antichains) → Tells slots arity b v → Tells slots arity runs v
  second_tells v tells t u is_t is_u same =
      tells t u is_t is_u (sym (aligned.second (number slots t) (below t is_t)) ∙ ap (λ (k : ℕ).
      (joint_at joints k).second) same ∙ aligned.second (number slots u) (below u is_u))

-- the table alone
pub TellAll-start : (table : Antichains) (slots arity : ℕ) (links : List (List ℕ))
    (rt runs : List Run) (joints : List Joint) → view_of slots arity links rt ≡ table
    → AreRuns slots arity links rt → IsAligned rt rt runs joints
    → TellAll table.slots table.arity table [] runs joints
TellAll-start table slots arity links rt runs joints view are aligned =
    subst (λ (v : Antichains). TellAll v.slots v.arity v [] runs joints) view (record {
      rise = aligned.rise;
      ends = aligned.ends ∙ are.ends;
      named = aligned.named;
      within = λ i short. let l = aligned.within i short in omega (arith, l, are.ends);
      used = aligned.used;
      table_told = first_tells slots arity rt rt runs joints aligned are.ends
          (view_of slots arity links rt)
          (own_tells slots arity links rt (view_of slots arity links rt) refl);
      values_told = All-nil (Tells slots arity runs);
    })

-- one more value
module _ (slots arity : ℕ) (table v : Antichains) (front : List Antichains) (sv kv : ℕ)
    (lv : List (List ℕ)) (rv a runs : List Run) (joints : List Joint) (view : view_of sv kv lv rv
    ≡ v) (shape : (v.slots ≡ slots) × (v.arity ≡ arity)) (aligned : IsAligned a rv runs joints)
  where
    slots_is : sv ≡ slots
    slots_is = ap (λ (w : Antichains). w.slots) view ∙ shape.0

    arity_is : kv ≡ arity
    arity_is = ap (λ (w : Antichains). w.arity) view ∙ shape.1

    own : Tells slots arity rv v
    own = subst (λ (s : ℕ). Tells s arity rv v) slots_is
        (subst (λ (k : ℕ). Tells sv k rv v) arity_is (own_tells sv kv lv rv v view))

    with_value : end_from 0 a ≡ slots ^ arity → Tells slots arity a table
        → All (Tells slots arity a) front → TellAll slots arity table (front ++ v ∷ []) runs joints
    with_value ends table_told values_told = record {
      rise = aligned.rise;
      ends = aligned.ends ∙ ends;
      named = aligned.named;
      within = λ i short. let l = aligned.within i short in omega (arith, l, ends);
      used = aligned.used;
      table_told = first_tells slots arity a rv runs joints aligned ends table table_told;
      values_told = All-push (Tells slots arity runs) front v
          (All-weaker (Tells slots arity a) (Tells slots arity runs) (λ (w : Antichains) tells.
          first_tells slots arity a rv runs joints aligned ends w tells) front values_told)
          (second_tells slots arity a rv runs joints aligned ends v own);
    }

    pub TellAll-more : (old : List Joint) → TellAll slots arity table front a old
        → TellAll slots arity table (front ++ v ∷ []) runs joints
    TellAll-more old told = with_value told.ends told.table_told told.values_told

pub no_values : (values : List Antichains) → nat_eq (length values) 0 ≡ true → values ≡ []
no_values [] none = refl
no_values (v ∷ values) none = let no : suc (length values) ≡ 0 =
    eqb-true (suc (length values)) 0 none in absurd (omega (arith, no))

pub some_values : (values : List Antichains) → nat_eq (length values) 0 ≡ false → 0 < length values
some_values [] some = absurd (true≢false (sym (eq-eqb 0 0 refl) ∙ some))
some_values (v ∷ values) some = omega arith

-- the table and its first value
pub TellAll-first : (table v : Antichains) (slots arity : ℕ) (links : List (List ℕ)) (rt : List Run)
    (sv kv : ℕ) (lv : List (List ℕ)) (rv runs : List Run) (joints : List Joint)
    → view_of slots arity links rt ≡ table → AreRuns slots arity links rt → view_of sv kv lv rv ≡ v
    → (v.slots ≡ table.slots) × (v.arity ≡ table.arity) → IsAligned rt rv runs joints
    → TellAll table.slots table.arity table (v ∷ []) runs joints
TellAll-first table v slots arity links rt sv kv lv rv runs joints view are view_v shape aligned =
    let slots_are : table.slots ≡ slots = ap (λ (w : Antichains). w.slots) (sym view) in
    let arity_are : table.arity ≡ arity = ap (λ (w : Antichains). w.arity) (sym view) in
    subst (λ (s : ℕ). TellAll s table.arity table (v ∷ []) runs joints) (sym slots_are)
    (subst (λ (k : ℕ). TellAll slots k table (v ∷ []) runs joints) (sym arity_are)
    (with_value slots arity table v [] sv kv lv rv rt runs joints view_v
    (shape.0 ∙ slots_are, shape.1 ∙ arity_are) aligned are.ends
    (own_tells slots arity links rt table view) (All-nil (Tells slots arity rt))))

-- where all tables' antichains are told, so are their lists
same_antichains : (slots arity : ℕ) (runs : List Run) (values : List Antichains) (t u : List IndId)
    → All (Tells slots arity runs) values → IsTuple slots arity t → IsTuple slots arity u
    → link_at runs (number slots t) ≡ link_at runs (number slots u)
    → antichains_at values t ≡ antichains_at values u
same_antichains slots arity runs [] t u told is_t is_u same = refl
same_antichains slots arity runs (v ∷ values) t u told is_t is_u same =
    ap (λ (x : List ℕ). x ∷ antichains_at values t) (told zero v (omega arith) t u is_t is_u same)
    ∙ ap (λ (xs : List (List ℕ)). at v u ∷ xs)
    (same_antichains slots arity runs values t u (λ k d within.
    told (suc k) d (omega (arith, within))) is_t is_u same)

abbrev IsMinimalAt : List ℕ → List (List ℕ) → List ℕ → Type 0
IsMinimalAt x xs antichain = IsMinimal (λ v. holds x (values_at xs v)) antichain

module _ (slots arity : ℕ) (table : Antichains) (values : List Antichains) (runs : List Run)
    (joints : List Joint) (links : List (List ℕ))
    (told : TellAll slots arity table values runs joints) (few : slots ^ arity ≤ 2 ^ 60)
    (are : AreSubstituted slots arity table values joints links) where
  pub AreRuns-substituted : AreRuns slots arity links runs
  AreRuns-substituted = record {
    rise = told.rise;
    ends = told.ends;
    few = few;
    named =
        subst (λ (k : ℕ). NamedBelow k runs) (sym are.many) told.named;
  }

  pub AreUsed-substituted : AreUsed (slots ^ arity) (length links) runs
  AreUsed-substituted i within =
      let short : i < length joints = omega (arith, within, are.many) in
      ((joint_at joints i).rank, told.within i short, told.used i short)

  pub each_substituted : (t : Antichains) → t ≡ view_of slots arity links runs
      → (tuple : List IndId) → IsTuple slots arity tuple
      → Substitutes table values tuple (at t tuple)
  each_substituted t is tuple tup =
      let n : ℕ = number slots tuple in
      let i : ℕ = link_at runs n in
      let short : i < length joints =
      link_at-named 0 runs (length joints) n told.named (omega arith)
      (omega (arith, tuple_below slots arity tuple tup, told.ends)) in
      let found = tuple_at slots arity (joint_at joints i).rank (told.within i short) in
      let same : link_at runs (number slots found.0) ≡ i =
      ap (link_at runs) found.2 ∙ told.used i short in
      let antichain : Substitutes table values found.0 (slice_index_or links i []) =
      are.each i short found.0 found.1 found.2 in
      let moved : IsMinimalAt (at table tuple) (antichains_at values tuple)
      (slice_index_or links i []) =
      subst (λ (x : List ℕ). IsMinimalAt x (antichains_at values tuple) (slice_index_or links i []))
      (told.table_told found.0 tuple found.1 tup same)
      (subst (λ (xs : List (List ℕ)). IsMinimalAt (at table found.0) xs (slice_index_or links i []))
      (same_antichains slots arity runs values found.0 tuple told.values_told found.1 tup same)
      antichain) in
      subst (IsMinimalAt (at table tuple) (antichains_at values tuple))
      (sym (ap (λ (v : Antichains). at v tuple) is ∙ at_view slots arity links runs tuple tup))
      moved

-- one more substituted link
pub AreSubstituted-more : (slots arity : ℕ) (table : Antichains) (values : List Antichains)
    (front : List Joint) (joint : Joint) (links links' : List (List ℕ)) (link : List ℕ)
    → AreSubstituted slots arity table values front links
    → ((tuple : List IndId) → IsTuple slots arity tuple → number slots tuple ≡ joint.rank
    → Substitutes table values tuple link) → links' ≡ links ++ link ∷ []
    → AreSubstituted slots arity table values (front ++ joint ∷ []) links'
AreSubstituted-more slots arity table values front joint links links' link are is more = record {
  many = ap (λ (xs : List (List ℕ)). length xs) more ∙ omega
      (arith, length-append links (link ∷ []), length-append front (joint ∷ []), are.many);
  each = λ i within. each i (omega (arith, within, length-append front (joint ∷ [])))
      (cases_lt i (length front));
}
  where
    each : (i : ℕ) → i < length front + 1 → (i < length front) ⊎ (length front ≤ i)
        → (tuple : List IndId) → IsTuple slots arity tuple
        → number slots tuple ≡ (joint_at (front ++ joint ∷ []) i).rank
        → Substitutes table values tuple (slice_index_or links' i [])
    each i within (inl early) tuple tup num =
        subst (Substitutes table values tuple)
        (sym (ap (λ (xs : List (List ℕ)).
        get_or xs i []) more ∙ get_or_append_left links (link ∷ []) [] i
        (omega (arith, early, are.many))))
        (are.each i early tuple tup (num ∙ ap (λ (j : Joint).
        j.rank) (get_or_append_left front (joint ∷ []) (record {
          first = 0;
          second = 0;
          rank =
              0;
        }) i early)))
    each i within (inr late) tuple tup num =
        let last : i ≡ length front = omega (arith, within, late) in
        subst (Substitutes table values tuple)
        (sym (ap (λ (xs : List (List ℕ)). get_or xs i []) more ∙ ap (λ (k : ℕ).
        get_or (links ++ link ∷ []) k []) (last ∙ sym are.many) ∙ get_or-append_seam links link
        [] []))
        (is tuple tup (num ∙ ap (λ (j : Joint).
        j.rank) (ap (joint_at (front ++ joint ∷ [])) last ∙ get_or-append_seam front joint []
        (record { first = 0; second = 0; rank = 0 }))))

-- a tuple of one shape is one of each table
pub shape_tuples : (slots arity rank : ℕ) (values : List Antichains) (tuple : List IndId)
    → HaveShape slots arity values → IsTuple slots arity tuple → number slots tuple ≡ rank
    → All (λ (v : Antichains). IsTuple v.slots v.arity tuple × (number v.slots tuple ≡ rank)) values
shape_tuples slots arity rank values tuple shape tup num k d within =
    let s = shape k d within in
    let v : Antichains = get_or values k d in (
      subst (λ (n : ℕ). IsTuple n v.arity tuple) (sym s.0)
          (subst (λ (n : ℕ). IsTuple slots n tuple) (sym s.1) tup),
      ap (λ (n : ℕ).
          number n tuple) s.0 ∙ num,
    )
