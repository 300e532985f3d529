-- What is written of the nodes of a query fits it.
use Rattle.std.proofs.Common.{◌≡◌, ℕ, zero, suc, ◌^◌, ◌<◌, ◌≤◌, true, false}
use Rattle.std.proofs.Common.{List, [], ◌∷◌, length, refl, sym, ◌∙◌, ap}
use Rattle.std.proofs.Common.{subst, arith, inl, inr}
use Rattle.std.specs.Prelude.{◌⊎◌, ◌≢◌, All, AllPairs}
use Rattle.std.specs.Prelude.{map}
use Rattle.std.specs.List.{Contains}
use Rattle.std.proofs.lemmas.Bool.{cases_lt}
use Rattle.std.proofs.lemmas.Bool.Decides.{eqb_tells}
use Rattle.std.proofs.lemmas.List.Elements.{All-cons, All-head, All-nil, All-tail}
use Rattle.std.proofs.lemmas.List.Kept.{AllPairs-cons}
use Rattle.list_lemmas.proofs.Elements.{All-back, All-front, All-from_contains, AllPairs-nil}
use Rattle.list_lemmas.proofs.Elements.{AllPairs-first, AllPairs-tail}
use Rattle.tcq_syntax.specs.End.{Inside, future_set}
use Rattle.tcq_syntax.specs.Formula.{formula_at}
use Rattle.tcq_syntax.specs.Kept.{IsKept}
use Rattle.tcq_syntax.specs.Tcq.{Tcq}
use Rattle.formula_store.specs.Interned.{AreDistinct}
use Rattle.formula_store.proofs.Lists.{generation}
use Rattle.answer_tables.specs.Lengths.{antichains_in}
use Rattle.answer_tables.specs.Table.{Antichains}
use Rattle.answer_tables.proofs.CountedRuns.{antichain_of, many_antichains}
use Rattle.progression.specs.declared.kept.Kept.{Kept}
use Rattle.progression.specs.Kept.{Fits, FitsNode}
use Rattle.checkpoint_text.specs.declared.checkpoint.Stretch.{Stretch}
use Rattle.checkpoint_text.specs.Suspended.{ArePlaces, AreStretches}
use Rattle.checkpoint_text.specs.Suspended.{NodeLists}
use Rattle.checkpoint_state.specs.Suspending.{antichains_in_all, antichains_of}
use Rattle.checkpoint_state.specs.Suspending.{kept_lists, node_of, nodes_of}
use Rattle.checkpoint_state.specs.Suspending.{number_in, stretches_of}
use Rattle.checkpoint_state.specs.Telling.{list_at}
use Rattle.checkpoint_state.proofs.Interning.{number_found}
use Rattle.checkpoint_state.proofs.Ordering.{has_none}
use Rattle.checkpoint_state.proofs.Ordering.{nodes_none, nodes_some, stretch_known, stretches_below}
use Rattle.checkpoint_state.proofs.Stretching.{stretches_are}

-- ---- what is kept has each of its antichains among its lists

pub lists_known : (kept : List Kept) → All (Contains (kept_lists kept)) (antichains_of kept)
lists_known kept = All-from_contains (Contains (kept_lists kept)) (antichains_of kept) (λ x there.
    ((generation (antichains_of kept)).1 x).1 there)

pub lists_distinct : (kept : List Kept) → AreDistinct (kept_lists kept)
lists_distinct kept = (generation (antichains_of kept)).0

-- ---- the nodes of a query

module _ (lists : List (List ℕ)) (query : Tcq) (slots : ℕ) where
  abbrev Entries : Type 0
  Entries = List (ℕ × Antichains)

  abbrev AllNode : Entries → Type 0
  AllNode entries = All (λ entry. FitsNode query slots entry.0 entry.1) entries

  pub tuples_are : (e : ℕ × Antichains) → FitsNode query slots e.0 e.1
      → e.1.slots ^ e.1.arity ≡ slots ^ query.vars
  tuples_are e node =
      ap (λ (n : ℕ). n ^ e.1.arity) node.slots_are ∙ ap (λ (k : ℕ). slots ^ k) node.arity_is

  -- each set lies in the node's part
  pub own_sets : (e : ℕ × Antichains) → FitsNode query slots e.0 e.1 → (x : List ℕ)
      → Contains (antichains_in e.1) x
      → All (λ set. Inside set (future_set (formula_at query.nodes e.0))) x
  own_sets e node x there =
      let has = antichain_of e.1 x there in
      let row = subst (λ (n : ℕ). (length has.0 ≡ query.vars) × All (λ i. i.0 < n) has.0)
      node.slots_are (subst (λ (v : ℕ). (length has.0 ≡ v) × All (λ i. i.0 < e.1.slots) has.0)
      node.arity_is has.1) in
      subst (All (λ set. Inside set (future_set (formula_at query.nodes e.0)))) has.2
      (node.own has.0 row)

  are_stretches : (e : ℕ × Antichains) → FitsNode query slots e.0 e.1
      → All (Contains lists) (antichains_in e.1)
      → AreStretches lists query (slots ^ query.vars) e.0 (node_of lists e).stretches
  are_stretches e node known =
      let numbers : List ℕ = map (number_in lists) (antichains_in e.1) in
      let ss : List Stretch = stretches_of numbers in
      let are = stretches_are numbers in
      record {
        some = are.some;
        all = are.all ∙ length_numbers (antichains_in e.1) ∙ many_antichains e.1
            ∙ tuples_are e node;
        apart = are.apart;
        known = All-from_contains (λ s. s.list < length lists) ss
            (stretches_below lists (antichains_in e.1) known);
        within = All-from_contains (λ s. All (λ set.
            Inside set (future_set (formula_at query.nodes e.0))) (list_at lists s.list)) ss
            (λ s there.
            let found = stretch_known lists (antichains_in e.1) s there in
            let place = found.1 in
            let listed : Contains lists found.0 =
            subst (Contains lists) place.2 (known place.0 found.0 place.1) in
            subst (All (λ set. Inside set (future_set (formula_at query.nodes e.0))))
            (sym (number_found lists found.0 listed).1 ∙ ap (list_at lists) found.2)
            (own_sets e node found.0 found.1));
      }
    where
      length_numbers : (xs : List (List ℕ)) → length (map (number_in lists) xs) ≡ length xs
      length_numbers [] = refl
      length_numbers (x ∷ xs) = ap suc (length_numbers xs)

  -- where there are tuples, there is a node for each table
  pub some_nodes : 0 < slots ^ query.vars → (entries : Entries) → AllNode entries
      → nodes_of lists entries ≡ map (node_of lists) entries
  some_nodes more [] fits = refl
  some_nodes more (e ∷ es) fits =
      go (eqb_tells (e.1.slots ^ e.1.arity) 0)
      (some_nodes more es (All-tail (λ entry. FitsNode query slots entry.0 entry.1) e es fits))
    where
      node : FitsNode query slots e.0 e.1
      node = All-head (λ entry. FitsNode query slots entry.0 entry.1) e es fits

      go : ((has_none e ≡ true) × (e.1.slots ^ e.1.arity ≡ 0))
          ⊎ ((has_none e ≡ false) × (e.1.slots ^ e.1.arity ≢ 0))
          → nodes_of lists es ≡ map (node_of lists) es
          → nodes_of lists (e ∷ es) ≡ map (node_of lists) (e ∷ es)
      go (inl none) rest = absurd (omega (arith, none.1, tuples_are e node, more))
      go (inr some) rest = nodes_some lists e es some.0
          ∙ ap (λ (ns : List NodeLists). node_of lists e ∷ ns) rest

  pub no_nodes : slots ^ query.vars ≡ 0 → (entries : Entries) → AllNode entries
      → nodes_of lists entries ≡ []
  no_nodes none [] fits = refl
  no_nodes none (e ∷ es) fits =
      go (eqb_tells (e.1.slots ^ e.1.arity) 0)
      (no_nodes none es (All-tail (λ entry. FitsNode query slots entry.0 entry.1) e es fits))
    where
      node : FitsNode query slots e.0 e.1
      node = All-head (λ entry. FitsNode query slots entry.0 entry.1) e es fits

      go : ((has_none e ≡ true) × (e.1.slots ^ e.1.arity ≡ 0))
          ⊎ ((has_none e ≡ false) × (e.1.slots ^ e.1.arity ≢ 0))
          → nodes_of lists es ≡ [] → nodes_of lists (e ∷ es) ≡ []
      go (inl is) rest = nodes_none lists e es is.0 ∙ rest
      go (inr some) rest = absurd (some.1 (tuples_are e node ∙ none))

  -- the places are those of the tables
  node_places : (entries : Entries)
      → map (λ node. node.place) (map (node_of lists) entries) ≡ map (λ e. e.0) entries
  node_places [] = refl
  node_places (e ∷ es) = ap (λ (ps : List ℕ). e.0 ∷ ps) (node_places es)

  rising_places : (entries : Entries) → AllPairs (λ e later. e.0 < later.0) entries
      → AllPairs (λ place later. place < later) (map (λ e. e.0) entries)
  rising_places [] rising = AllPairs-nil (λ (place later : ℕ). place < later)
  rising_places (e ∷ es) rising =
      AllPairs-cons (λ (place later : ℕ). place < later) e.0 (map (λ (x : ℕ × Antichains). x.0) es)
      (above es (AllPairs-first (λ (x later : ℕ × Antichains). x.0 < later.0) e es rising))
      (rising_places es (AllPairs-tail (λ (x later : ℕ × Antichains). x.0 < later.0) e es rising))
    where
      above : (xs : Entries) → All (λ x. e.0 < x.0) xs
          → All (λ place. e.0 < place) (map (λ x. x.0) xs)
      above [] all = All-nil (λ (place : ℕ). e.0 < place)
      above (x ∷ xs) all = All-cons (λ (place : ℕ). e.0 < place) x.0
          (map (λ (y : ℕ × Antichains). y.0) xs)
          (All-head (λ (y : ℕ × Antichains). e.0 < y.0) x xs all)
          (above xs (All-tail (λ (y : ℕ × Antichains). e.0 < y.0) x xs all))

  -- a place of an entry is that of a kept node
  kept_place : (entries : Entries) → AllNode entries → (place : ℕ)
      → Contains (map (λ e. e.0) entries) place → IsKept query.nodes place
  kept_place [] fits place there = absurd (let l = there.1 in omega (arith, l))
  kept_place (e ∷ es) fits place (zero, within, is) =
      subst (IsKept query.nodes) is
      (All-head (λ entry. FitsNode query slots entry.0 entry.1) e es fits).kept
  kept_place (e ∷ es) fits place (suc k, within, is) =
      kept_place es (All-tail (λ entry. FitsNode query slots entry.0 entry.1) e es fits) place
      (k, omega (arith, within), is)

  pub are_places : (k : Kept) (count : ℕ) → k.count ≡ count → Fits query slots k
      → ArePlaces count (slots ^ query.vars) query
      (map (λ node. node.place) (nodes_of lists k.tables.items))
  are_places k count counted fits = go (cases_lt zero (slots ^ query.vars))
    where
      entries : Entries
      entries = k.tables.items

      Goal : List ℕ → Type 0
      Goal places = ArePlaces count (slots ^ query.vars) query places

      some_kept : (place : ℕ) → Contains (map (λ e. e.0) entries) place → 0 < k.count
      some_kept place there = at_least k.count refl
        where
          at_least : (n : ℕ) → n ≡ k.count → 0 < k.count
          at_least zero is = absurd (let l = there.1 in
              let empty : length (map (λ e. e.0) entries) ≡ 0 =
              ap (λ (es : Entries). length (map (λ e. e.0) es)) (fits.none (sym is)) in
              omega (arith, l, empty))
          at_least (suc n) is = omega (arith, is)

      go : (zero < slots ^ query.vars) ⊎ (slots ^ query.vars ≤ zero)
          → Goal (map (λ node. node.place) (nodes_of lists entries))
      go (inl more) =
          subst Goal (sym (ap (λ (ns : List NodeLists). map (λ node. node.place) ns)
          (some_nodes more entries fits.tables) ∙ node_places entries)) (record {
            rising = rising_places entries fits.rising;
            exact = λ place. (
              λ there. (
                omega (arith, some_kept place there, counted),
                more,
                kept_place entries fits.tables place there,
              ),
              λ (some, tuples, kept). fits.complete (omega (arith, some, counted)) place kept,
            );
          })
      go (inr none) =
          subst Goal (sym (ap (λ (ns : List NodeLists). map (λ node. node.place) ns)
          (no_nodes (omega (arith, none)) entries fits.tables))) (record {
            rising = AllPairs-nil (λ (place later : ℕ). place < later);
            exact = λ place. (
              λ there. absurd (let l = there.1 in omega (arith, l)),
              λ (some, tuples, kept). absurd (omega (arith, tuples, none)),
            );
          })

  -- what is written of each node
  pub each_node : (entries : Entries) → AllNode entries
      → All (Contains lists) (antichains_in_all entries)
      → All (λ node. AreStretches lists query (slots ^ query.vars) node.place node.stretches)
      (nodes_of lists entries)
  each_node [] fits known =
      All-nil (λ node. AreStretches lists query (slots ^ query.vars) node.place node.stretches)
  each_node (e ∷ es) fits known =
      go (eqb_tells (e.1.slots ^ e.1.arity) 0)
      (each_node es (All-tail (λ entry. FitsNode query slots entry.0 entry.1) e es fits)
      (All-back (Contains lists) (antichains_in e.1) (antichains_in_all es) known))
    where
      Good : NodeLists → Type 0
      Good node = AreStretches lists query (slots ^ query.vars) node.place node.stretches

      go : ((has_none e ≡ true) × (e.1.slots ^ e.1.arity ≡ 0))
          ⊎ ((has_none e ≡ false) × (e.1.slots ^ e.1.arity ≢ 0)) → All Good (nodes_of lists es)
          → All Good (nodes_of lists (e ∷ es))
      go (inl none) rest = subst (All Good) (sym (nodes_none lists e es none.0)) rest
      go (inr some) rest = subst (All Good) (sym (nodes_some lists e es some.0))
          (All-cons Good (node_of lists e) (nodes_of lists es)
          (are_stretches e (All-head (λ entry. FitsNode query slots entry.0 entry.1) e es fits)
          (All-front (Contains lists) (antichains_in e.1) (antichains_in_all es) known)) rest)
