-- Links numbered anew.
use Rattle.std.proofs.Common.{◌≡◌, ℕ, zero, suc, ◌+◌, ◌^◌, ◌<◌, ◌≤◌, Bool, true, false, cond, List}
use Rattle.std.proofs.Common.{[], ◌∷◌, ◌++◌, length, get_or, refl, sym, ◌∙◌, ap, subst, arith, inl}
use Rattle.std.proofs.Common.{inr, length-append}
use Rattle.std.specs.Prelude.{◌⊎◌, ◌≢◌, Some, slice_get, slice_index, slice_index_or}
use Rattle.std.specs.List.{list_any}
use Rattle.std.proofs.lemmas.Bool.{cases_lt}
use Rattle.std.proofs.lemmas.List.{get_or_append_left}
use Rattle.std.proofs.Math.Seq.{get_or-append_seam}
use Rattle.std.proofs.lemmas.Option.{slice_get-get_or, slice_get_within, get_or_from_slice_get}
use Rattle.formula_store.specs.Interned.{interned, AreDistinct}
use Rattle.formula_store.proofs.Antichains.{is_antichain, Tested, tested, slice_get-interned}
use Rattle.answer_tables.specs.declared.run.Run.{Run}
use Rattle.answer_tables.specs.Runs.{link_at, end_from, RiseFrom, NamedBelow, Extended, AreAlike}
use Rattle.answer_tables.specs.Renaming.{ArePlaces, AreRenamed}
use Rattle.answer_tables.specs.Patching.{ArePlacesAfter}
use Rattle.answer_tables.specs.Table.{AreRuns, AreUsed, IsTable, view_of}
use Rattle.answer_tables.proofs.Runs.{run_at, Rest, Rest-start, Rest-here, Rest-above, Rest-next}
use Rattle.answer_tables.proofs.Runs.{Rest-end, link_at-named}
use Rattle.answer_tables.proofs.Views.{view_same}

-- the runs so far, each number replaced by another
pub record Mapping (f : ℕ → ℕ) (runs new : List Run) (i : ℕ) : Type 0 where
  pub rise : RiseFrom 0 new
  pub rest : Rest runs i (end_from 0 new) (end_from 0 runs)
  pub same : (n : ℕ) → n < end_from 0 new → link_at new n ≡ f (link_at runs n)
  pub named : (limit : ℕ) → ((k : ℕ) → k < length runs → f (run_at runs k).link < limit)
      → NamedBelow limit new

pub Mapping-start : (f : ℕ → ℕ) (runs new : List Run) → RiseFrom 0 runs → new ≡ []
    → Mapping f runs new 0
Mapping-start f runs new rise none =
    subst (λ (xs : List Run). Mapping f runs xs 0) (sym none) (record {
      rise = tt;
      rest = Rest-start runs (end_from 0 runs) rise refl;
      same = λ n below. absurd (omega (arith, below));
      named = λ limit all k d within. absurd (omega (arith, within));
    })

pub Mapping-step : (f : ℕ → ℕ) (runs new new' : List Run) (i : ℕ) → Mapping f runs new i
    → i < length runs → Extended new (record {
      end = (run_at runs i).end;
      link =
          f (run_at runs i).link;
    }) new' → Mapping f runs new' (i + 1)
Mapping-step f runs new new' i mapping within extended = record {
  rise = extended.rise;
  rest = subst (λ (e : ℕ). Rest runs (i + 1) e (end_from 0 runs)) (sym extended.ends)
      (Rest-next runs i (end_from 0 new) (end_from 0 runs) (run_at runs i).end mapping.rest within
      refl);
  same = λ n below. same n (subst (λ (e : ℕ). n < e) extended.ends below)
      (cases_lt n (end_from 0 new));
  named = λ limit small. extended.named limit (mapping.named limit small) (small i within);
}
  where
    same : (n : ℕ) → n < (run_at runs i).end → (n < end_from 0 new) ⊎ (end_from 0 new ≤ n)
        → link_at new' n ≡ f (link_at runs n)
    same n below (inl early) = extended.before n early ∙ mapping.same n early
    same n below (inr late) =
        extended.since n late below ∙ ap f
        (sym (Rest-here runs i (end_from 0 new) (end_from 0 runs) n mapping.rest within late below))

-- the next run ends above those so far
pub Mapping-above : (f : ℕ → ℕ) (runs new : List Run) (i : ℕ) → Mapping f runs new i
    → i < length runs → end_from 0 new < (run_at runs i).end
Mapping-above f runs new i mapping within =
    Rest-above runs i (end_from 0 new) (end_from 0 runs) mapping.rest within

pub AreRenamed-end : (places : List ℕ) (runs new : List Run) (i : ℕ)
    → NamedBelow (length places) runs → Mapping (slice_index places) runs new i → length runs ≤ i
    → AreRenamed places runs new
AreRenamed-end places runs new i all mapping past =
    let ends : end_from 0 new ≡ end_from 0 runs =
    Rest-end runs i (end_from 0 new) (end_from 0 runs) mapping.rest past in
    record {
      rise = mapping.rise;
      ends = ends;
      same = λ n below. mapping.same n (omega (arith, below, ends));
      named = λ limit small. mapping.named limit (λ k within.
          small (run_at runs k).link (all k (record { end = 0; link = 0 }) within));
    }

pub AreAlike-end : (runs new : List Run) (i : ℕ) → Mapping (λ k. k) runs new i → length runs ≤ i
    → AreAlike runs new
AreAlike-end runs new i mapping past =
    let ends : end_from 0 new ≡ end_from 0 runs =
    Rest-end runs i (end_from 0 new) (end_from 0 runs) mapping.rest past in
    record {
      rise = mapping.rise;
      ends = ends;
      same = λ n below. mapping.same n (omega (arith, below, ends));
      named = λ limit small. mapping.named limit (λ k within.
          small k (record { end = 0; link = 0 }) within);
    }

-- runs are like themselves
pub AreAlike-same : (runs new : List Run) → runs ≡ new → RiseFrom 0 runs → AreAlike runs new
AreAlike-same runs new is rise =
    subst (AreAlike runs) is (record {
      rise = rise;
      ends = refl;
      same = λ n below. refl;
      named =
          λ limit small. small;
    })

-- and what is like them is renamed as they are
pub AreRenamed-alike : (places : List ℕ) (runs new other : List Run) → AreRenamed places runs new
    → AreAlike new other → AreRenamed places runs other
AreRenamed-alike places runs new other renamed alike = record {
  rise = alike.rise;
  ends = alike.ends ∙ renamed.ends;
  same = λ n below. alike.same n (omega (arith, below, renamed.ends)) ∙ renamed.same n below;
  named = λ limit small. alike.named limit (renamed.named limit small);
}

pub AreRenamed-of_alike : (places : List ℕ) (runs other new : List Run) → AreAlike runs other
    → AreRenamed places other new → AreRenamed places runs new
AreRenamed-of_alike places runs other new alike renamed = record {
  rise = renamed.rise;
  ends = renamed.ends ∙ alike.ends;
  same = λ n below. renamed.same n (omega (arith, below, alike.ends)) ∙ ap (slice_index places)
      (alike.same n below);
  named = renamed.named;
}

-- where each number is its own place, nothing changes
pub AreRenamed-same : (places : List ℕ) (runs new : List Run) → new ≡ runs → RiseFrom 0 runs
    → NamedBelow (length places) runs → ((i : ℕ) → i < length places → slice_index places i ≡ i)
    → AreRenamed places runs new
AreRenamed-same places runs new is rise all own = subst (AreRenamed places runs) (sym is) (record {
  rise = rise;
  ends = refl;
  same = λ n below. sym (own (link_at runs n)
      (link_at-named 0 runs (length places) n all (omega arith) below));
  named = λ limit small k d within.
      let number : ℕ = (get_or runs k d).link in
      let inside : number < length places = all k d within in
      let place : slice_index places number < limit = small number inside in
      omega (arith, place, own number inside);
})

-- the same where they are only like those
pub AreRenamed-own : (places : List ℕ) (runs new : List Run) → AreAlike runs new → RiseFrom 0 runs
    → NamedBelow (length places) runs → ((i : ℕ) → i < length places → slice_index places i ≡ i)
    → AreRenamed places runs new
AreRenamed-own places runs new alike rise all own =
    AreRenamed-alike places runs runs new (AreRenamed-same places runs runs refl rise all own) alike

-- one more link among those that were given
one_place : (once : List (List ℕ)) (p q : ℕ) (x : List ℕ) → AreDistinct once
    → slice_get once p ≡ Some x → slice_get once q ≡ Some x → p ≡ q
one_place once p q x distinct at_p at_q = go (cases_lt p q) (cases_lt q p)
  where
    same : get_or once p x ≡ get_or once q x
    same = get_or_from_slice_get once p x x at_p ∙ sym (get_or_from_slice_get once q x x at_q)

    go : (p < q) ⊎ (q ≤ p) → (q < p) ⊎ (p ≤ q) → p ≡ q
    go (inl less) h = absurd (distinct p q x less (slice_get_within once q x at_q) same)
    go (inr le) (inl less) =
        absurd (distinct q p x less (slice_get_within once p x at_p) (sym same))
    go (inr le) (inr ge) = omega (arith, le, ge)

-- a antichain that differs from each goes last
pub interned-new : (antichain : List ℕ) (antichains : List (List ℕ))
    → ((k : ℕ) → k < length antichains → slice_index_or antichains k [] ≢ antichain)
    → interned antichains antichain ≡ antichains ++ antichain ∷ []
interned-new antichain antichains differ =
    ap (λ (b : Bool). cond b antichains (antichains ++ antichain ∷ [])) (none antichains differ)
  where
    none : (antichains : List (List ℕ))
        → ((k : ℕ) → k < length antichains → slice_index_or antichains k [] ≢ antichain)
        → list_any (is_antichain antichain) antichains ≡ false
    none [] differ = refl
    none (x ∷ antichains) differ =
        go (tested antichain x) (none antichains (λ k within.
        differ (suc k) (omega (arith, within))))
      where
        go : Tested antichain x → list_any (is_antichain antichain) antichains ≡ false
            → list_any (is_antichain antichain) (x ∷ antichains) ≡ false
        go (inl is) later = absurd (differ zero (omega arith) (sym is.1))
        go (inr other) later = rw other.0 later

-- what was pushed stands at the end
pub slice_get-last : (new old : List (List ℕ)) (antichain : List ℕ) (place : ℕ) → place ≡ length old
    → new ≡ old ++ antichain ∷ [] → slice_get new place ≡ Some antichain
slice_get-last new old antichain place last more =
    slice_get-get_or new place [] (omega (
      arith,
      last,
      ap (λ (cs : List (List ℕ)).
          length cs) more,
      length-append old (antichain ∷ []),
    ))
    ∙ ap Some (ap (λ (cs : List (List ℕ)). get_or cs place []) more ∙ ap (λ (k : ℕ).
    get_or (old ++ antichain ∷ []) k []) last ∙ get_or-append_seam old antichain [] [])

pub ArePlaces-start : (links once : List (List ℕ)) (places : List ℕ) → links ≡ [] → once ≡ []
    → places ≡ [] → ArePlaces links once places
ArePlaces-start links once places no_links no_once no_places = record {
  many = ap (λ (xs : List ℕ). length xs) no_places ∙ sym
      (ap (λ (xs : List (List ℕ)). length xs) no_links);
  same = λ i d within. absurd (omega (
    arith,
    within,
    ap (λ (xs : List (List ℕ)).
        length xs) no_links,
  ));
  used = λ p within. absurd (omega (arith, within, ap (λ (xs : List (List ℕ)). length xs) no_once));
}

-- one more link among those of a list that begins as before
pub ArePlacesAfter-more : (old links once once' : List (List ℕ)) (places places' : List ℕ)
    (x : List ℕ) (p : ℕ) → once' ≡ interned once x → slice_get once' p ≡ Some x
    → places' ≡ places ++ p ∷ [] → ArePlacesAfter old links once places
    → ArePlacesAfter old (links ++ x ∷ []) once' places'
ArePlacesAfter-more old links once once' places places' x p grown at_p more are = record {
  many = ap (λ (xs : List ℕ). length xs) more ∙ omega
      (arith, length-append places (p ∷ []), length-append links (x ∷ []), are.many);
  kept = λ i antichain there. ap (λ (cs : List (List ℕ)).
      slice_get cs i) grown ∙ slice_get-interned once x i antichain (are.kept i antichain there);
  same = λ i d within. same i d (omega (arith, within, length-append links (x ∷ [])))
      (cases_lt i (length links));
}
  where
    same : (i : ℕ) (d : List ℕ) → i < length links + 1 → (i < length links) ⊎ (length links ≤ i)
        → slice_get once' (slice_index places' i) ≡ Some (slice_index_or (links ++ x ∷ []) i d)
    same i d within (inl early) =
        ap (slice_get once') (ap (λ (xs : List ℕ).
        get_or xs i 0) more ∙ get_or_append_left places (p ∷ []) 0 i
        (omega (arith, early, are.many)))
        ∙ ap (λ (cs : List (List ℕ)). slice_get cs (slice_index places i)) grown
        ∙ slice_get-interned once x (slice_index places i) (slice_index_or links i d)
        (are.same i d early)
        ∙ ap Some (sym (get_or_append_left links (x ∷ []) d i early))
    same i d within (inr late) =
        let last : i ≡ length links = omega (arith, within, late) in
        ap (λ (k : ℕ). slice_get once' (slice_index places' k)) last
        ∙ ap (slice_get once') (ap (λ (xs : List ℕ).
        get_or xs (length links) 0) more ∙ ap (λ (k : ℕ).
        get_or (places ++ p ∷ []) k 0) (sym are.many) ∙ get_or-append_seam places p [] 0)
        ∙ at_p ∙ ap Some (sym (ap (λ (k : ℕ).
        get_or (links ++ x ∷ []) k d) last ∙ get_or-append_seam links x [] d))

pub ArePlaces-more : (links once once' : List (List ℕ)) (places places' : List ℕ) (x : List ℕ)
    (p : ℕ) → AreDistinct once' → once' ≡ interned once x → slice_get once' p ≡ Some x
    → places' ≡ places ++ p ∷ [] → ArePlaces links once places
    → ArePlaces (links ++ x ∷ []) once' places'
ArePlaces-more links once once' places places' x p distinct grown at_p more are = record {
  many = ap (λ (xs : List ℕ). length xs) more ∙ omega
      (arith, length-append places (p ∷ []), length-append links (x ∷ []), are.many);
  same = λ i d within. same i d (omega (arith, within, length-append links (x ∷ [])))
      (cases_lt i (length links));
  used = λ q within. used q within (list_any (is_antichain x) once) refl;
}
  where
    old_place : (i : ℕ) → i < length links → slice_index places' i ≡ slice_index places i
    old_place i early = ap (λ (xs : List ℕ).
        get_or xs i 0) more ∙ get_or_append_left places (p ∷ []) 0 i
        (omega (arith, early, are.many))

    new_place : slice_index places' (length links) ≡ p
    new_place = ap (λ (xs : List ℕ). get_or xs (length links) 0) more ∙ ap (λ (k : ℕ).
        get_or (places ++ p ∷ []) k 0) (sym are.many) ∙ get_or-append_seam places p [] 0

    same : (i : ℕ) (d : List ℕ) → i < length links + 1 → (i < length links) ⊎ (length links ≤ i)
        → slice_get once' (slice_index places' i) ≡ Some (slice_index_or (links ++ x ∷ []) i d)
    same i d within (inl early) =
        ap (slice_get once') (old_place i early) ∙ ap (λ (cs : List (List ℕ)).
        slice_get cs (slice_index places i)) grown
        ∙ slice_get-interned once x (slice_index places i) (slice_index_or links i d)
        (are.same i d early)
        ∙ ap Some (sym (get_or_append_left links (x ∷ []) d i early))
    same i d within (inr late) =
        let last : i ≡ length links = omega (arith, within, late) in
        ap (λ (k : ℕ). slice_get once' (slice_index places' k)) last ∙ ap (slice_get once')
        new_place ∙ at_p
        ∙ ap Some (sym (ap (λ (k : ℕ). get_or (links ++ x ∷ []) k d) last ∙ get_or-append_seam links
        x [] d))

    from_old : (q : ℕ) → q < length once → (i : ℕ) × (i < length (links ++ x ∷ []))
        × (slice_index places' i ≡ q)
    from_old q early =
        let found = are.used q early in (
          found.0,
          (let l = found.1 in
              omega (arith, l, length-append links (x ∷ []))),
          old_place found.0 found.1 ∙ found.2,
        )

    from_new : (q : ℕ) → slice_get once' q ≡ Some x
        → (i : ℕ) × (i < length (links ++ x ∷ [])) × (slice_index places' i ≡ q)
    from_new q at_q = (
      length links,
      omega (arith, length-append links (x ∷ [])),
      new_place ∙ one_place once' p q
          x distinct at_p at_q,
    )

    used : (q : ℕ) → q < length once' → (b : Bool) → list_any (is_antichain x) once ≡ b
        → (i : ℕ) × (i < length (links ++ x ∷ [])) × (slice_index places' i ≡ q)
    used q within true there =
        let stays : once' ≡ once = grown ∙ ap (λ (b : Bool). cond b once (once ++ x ∷ [])) there in
        from_old q (omega (arith, within, ap (λ (cs : List (List ℕ)). length cs) stays))
    used q within false absent = elim (cases_lt q (length once)) [
      | inl early ↦ from_old q early
      | inr late ↦
          let pushed : once' ≡ once ++ x ∷ [] =
          grown ∙ ap (λ (b : Bool). cond b once (once ++ x ∷ [])) absent in
          let last : q ≡ length once =
          omega (
            arith,
            within,
            late,
            ap (λ (cs : List (List ℕ)).
                length cs) pushed,
            length-append once (x ∷ []),
          ) in
          from_new q (slice_get-get_or once' q x within ∙ ap Some
          (ap (λ (cs : List (List ℕ)). get_or cs q x) pushed ∙ ap (λ (k : ℕ).
          get_or (once ++ x ∷ []) k x) last ∙ get_or-append_seam once x [] x))
    ]

-- a table of the renamed runs
module _ (slots arity : ℕ) (links once : List (List ℕ)) (places : List ℕ) (runs new : List Run)
    (are : AreRuns slots arity links runs) (used : AreUsed (slots ^ arity) (length links) runs)
    (distinct : AreDistinct once) (are_places : ArePlaces links once places)
    (renamed : AreRenamed places runs new) where
  small : (n : ℕ) → n < slots ^ arity → link_at runs n < length links
  small n below = link_at-named 0 runs (length links) n are.named (omega arith)
      (omega (arith, below, are.ends))

  place_below : (i : ℕ) → i < length places → slice_index places i < length once
  place_below i within = slice_get_within once (slice_index places i) (slice_index_or links i [])
      (are_places.same i [] (omega (arith, within, are_places.many)))

  pub IsTable-renamed : IsTable slots arity once new
  IsTable-renamed = record {
    are = record {
      rise = renamed.rise;
      ends = renamed.ends ∙ are.ends;
      few = are.few;
      named =
          renamed.named (length once) place_below;
    };
    used = λ p within.
        let i = are_places.used p within in
        let n = used i.0 i.1 in (
          n.0,
          n.1,
          renamed.same n.0 (let l = n.1 in
              omega (arith, l, are.ends)) ∙ ap (slice_index places) n.2 ∙ i.2,
        );
    distinct = distinct;
  }

  pub view_renamed : view_of slots arity once new ≡ view_of slots arity links runs
  view_renamed = view_same slots arity once links new runs (λ n below.
      ap (λ (k : ℕ). slice_index_or once k []) (renamed.same n (omega (arith, below, are.ends)))
      ∙ get_or_from_slice_get once (slice_index places (link_at runs n))
      (slice_index_or links (link_at runs n) []) []
      (are_places.same (link_at runs n) [] (small n below)))

-- the same table by runs alike
pub AreRuns-alike : (slots arity : ℕ) (links : List (List ℕ)) (runs new : List Run)
    → AreAlike runs new → AreRuns slots arity links runs → AreRuns slots arity links new
AreRuns-alike slots arity links runs new alike are =
    record {
      rise = alike.rise;
      ends = alike.ends ∙ are.ends;
      few = are.few;
      named =
          alike.named (length links) are.named;
    }

pub AreUsed-alike : (limit count : ℕ) (runs new : List Run) → AreAlike runs new
    → end_from 0 runs ≡ limit → AreUsed limit count runs → AreUsed limit count new
AreUsed-alike limit count runs new alike ends used i within =
    let n = used i within in
    (n.0, n.1, alike.same n.0 (let l = n.1 in omega (arith, l, ends)) ∙ n.2)

pub view_alike : (slots arity : ℕ) (links : List (List ℕ)) (runs new : List Run) → AreAlike runs new
    → AreRuns slots arity links runs
    → view_of slots arity links new ≡ view_of slots arity links runs
view_alike slots arity links runs new alike are =
    view_same slots arity links links new runs (λ n below.
    ap (λ (k : ℕ). slice_index_or links k []) (alike.same n (omega (arith, below, are.ends))))
