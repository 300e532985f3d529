-- Tables without tuples for the kept nodes, place by place.
use Rattle.std.proofs.Common.{◌≡◌, ℕ, ◌+◌, ◌^◌, ◌<◌, ◌≤◌, List, [], ◌∷◌, ◌++◌, length, refl, sym}
use Rattle.std.proofs.Common.{◌∙◌, ap, subst, arith, inl, inr}
use Rattle.std.specs.Prelude.{◌⊎◌, All, map}
use Rattle.std.specs.List.{Contains}
use Rattle.std.proofs.lemmas.Bool.{cases_lt}
use Rattle.std.proofs.lemmas.List.{map-append}
use Rattle.std.proofs.lemmas.List.Elements.{All-append, All-cons, All-nil, All-weaker}
use Rattle.std.proofs.lemmas.List.Elements.{Contains-append_left, Contains-push}
use Rattle.list_lemmas.proofs.Elements.{AllPairs-nil, AllPairs-push}
use Rattle.dl_syntax.specs.declared.names.IndId.{IndId}
use Rattle.tcq_syntax.specs.Answers.{IsRow}
use Rattle.tcq_syntax.specs.Kept.{IsKept}
use Rattle.tcq_syntax.specs.Tcq.{Tcq}
use Rattle.answer_tables.specs.Table.{Antichains, at}
use Rattle.answer_tables.specs.Lengths.{antichains_in}
use Rattle.answer_tables.proofs.CountedRuns.{antichain_there}
use Rattle.progression.specs.Kept.{FitsNode}
use Rattle.checkpoint_state.specs.Resuming.{AreTablesBelow}
use Rattle.checkpoint_state.proofs.Ordering.{no_antichains}

module _ (query : Tcq) (slots : ℕ) where
  abbrev FitsEntry : ℕ × Antichains → Type 0
  FitsEntry entry = FitsNode query slots entry.0 entry.1

  abbrev Rises : ℕ × Antichains → ℕ × Antichains → Type 0
  Rises entry later = entry.0 < later.0

  -- a table without tuples fits each kept node
  pub empty_fits : (e : ℕ × Antichains) → IsKept query.nodes e.0 → e.1.slots ≡ slots
      → e.1.arity ≡ query.vars → slots ^ query.vars ≡ 0 → FitsEntry e
  empty_fits e kept slots_are arity_is none = record {
    kept = kept;
    slots_are = slots_are;
    arity_is = arity_is;
    own = λ row is. absurd (no_row row is);
  }
    where
      no_row : (row : List IndId) → IsRow slots query.vars row → ⊥
      no_row row is =
          let there : Contains (antichains_in e.1) (at e.1 row) =
          antichain_there e.1 row
          (subst (λ (k : ℕ). (length row ≡ k) × All (λ i. i.0 < e.1.slots) row) (sym arity_is)
          (subst (λ (n : ℕ). (length row ≡ query.vars) × All (λ i. i.0 < n) row)
          (sym slots_are) is)) in
          let found : Contains [] (at e.1 row) =
          subst (λ (xs : List (List ℕ)). Contains xs (at e.1 row))
          (no_antichains e.1 (ap (λ (n : ℕ). n ^ e.1.arity) slots_are
          ∙ ap (λ (k : ℕ). slots ^ k) arity_is ∙ none)) there in
          let l = found.1 in omega (arith, l)

  pub below_start : (entries : List (ℕ × Antichains)) → entries ≡ []
      → AreTablesBelow query slots 0 entries
  below_start entries is = subst (AreTablesBelow query slots 0) (sym is) (record {
    rising = AllPairs-nil Rises;
    below = All-nil (λ (entry : ℕ × Antichains). entry.0 < 0);
    each = All-nil FitsEntry;
    complete = λ place within kept. absurd (omega (arith, within));
  })

  pub below_push : (count : ℕ) (old new : List (ℕ × Antichains)) (e : ℕ × Antichains)
      → AreTablesBelow query slots count old → FitsEntry e → e.0 ≡ count → new ≡ old ++ e ∷ []
      → AreTablesBelow query slots (count + 1) new
  below_push count old new e before fits place_is is =
      subst (AreTablesBelow query slots (count + 1)) (sym is) (record {
        rising = AllPairs-push Rises old e before.rising (λ x there.
            let less = before.below there.0 x there.1 in
            let same : (there_is : ℕ) × (there_is ≡ there_is) = (there.0, refl) in
            subst (λ (y : ℕ × Antichains). y.0 < e.0) there.2
            (omega (arith, less, place_is)));
        below = All-append (λ (x : ℕ × Antichains). x.0 < count + 1) old (e ∷ [])
            (All-weaker (λ (x : ℕ × Antichains). x.0 < count)
            (λ (x : ℕ × Antichains). x.0 < count + 1) (λ x less. omega (arith, less)) old
            before.below)
            (All-cons (λ (x : ℕ × Antichains). x.0 < count + 1) e [] (omega (arith, place_is))
            (All-nil (λ (x : ℕ × Antichains). x.0 < count + 1)));
        each = All-append FitsEntry old (e ∷ []) before.each
            (All-cons FitsEntry e [] fits (All-nil FitsEntry));
        complete = λ place within kept. complete place kept (cases_lt place count) within;
      })
    where
      complete : (place : ℕ) → IsKept query.nodes place → (place < count) ⊎ (count ≤ place)
          → place < count + 1 → Contains (map (λ x. x.0) (old ++ e ∷ [])) place
      complete place kept (inl early) within =
          subst (λ (ps : List ℕ). Contains ps place)
          (sym (map-append (λ (x : ℕ × Antichains). x.0) old (e ∷ [])))
          (Contains-append_left (map (λ x. x.0) old) (e.0 ∷ []) place
          (before.complete place early kept))
      complete place kept (inr late) within =
          let same : e.0 ≡ place = omega (arith, late, within, place_is) in
          subst (λ (ps : List ℕ). Contains ps place)
          (sym (map-append (λ (x : ℕ × Antichains). x.0) old (e ∷ [])))
          (subst (Contains (map (λ x. x.0) old ++ e.0 ∷ [])) same
          (Contains-push (map (λ x. x.0) old) e.0))

  pub below_skip : (count : ℕ) (entries : List (ℕ × Antichains))
      → AreTablesBelow query slots count entries → (IsKept query.nodes count → ⊥)
      → AreTablesBelow query slots (count + 1) entries
  below_skip count entries before other = record {
    rising = before.rising;
    below = All-weaker (λ (x : ℕ × Antichains). x.0 < count)
        (λ (x : ℕ × Antichains). x.0 < count + 1) (λ x less. omega (arith, less)) entries
        before.below;
    each = before.each;
    complete = λ place within kept. elim (cases_lt place count) [
      | inl early ↦ before.complete place early kept
      | inr late ↦ let same : place ≡ count = omega (arith, late, within) in
          absurd (other (subst (IsKept query.nodes) same kept))
    ];
  }
