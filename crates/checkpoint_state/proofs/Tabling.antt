-- What is kept of a query, made again of what is written of its nodes.
use Rattle.std.proofs.Common.{◌≡◌, ℕ, zero, suc, ◌+◌, ◌^◌, ◌<◌, ◌≤◌, List, []}
use Rattle.std.proofs.Common.{◌∷◌, ◌++◌, length, get_or, replicate, refl, sym, ◌∙◌, ap, subst}
use Rattle.std.proofs.Common.{arith, inl, inr}
use Rattle.std.specs.Prelude.{◌⊎◌, All, AllPairs, Err, IfOk, Ok, Result, map}
use Rattle.std.specs.List.{AllZip, Contains, sum_by}
use Rattle.std.proofs.lemmas.List.{get_or_default, map-append}
use Rattle.std.proofs.lemmas.List.Sums.{sum_by-cons}
use Rattle.std.proofs.lemmas.List.Elements.{All-append, All-cons, All-head, All-nil, All-tail}
use Rattle.list_lemmas.proofs.Elements.{All-from_contains, AllPairs-first, AllPairs-tail}
use Rattle.list_lemmas.proofs.Elements.{AllPairs-nil, Contains-first}
use Rattle.list_lemmas.proofs.Maps.{Contains-from_map, Contains-map}
use Rattle.std.proofs.lemmas.List.Kept.{AllPairs-cons}
use Rattle.dl_syntax.specs.declared.names.IndId.{IndId}
use Rattle.tcq_syntax.specs.Answers.{IsRow}
use Rattle.tcq_syntax.specs.End.{Inside, future_set}
use Rattle.tcq_syntax.specs.Formula.{formula_at}
use Rattle.tcq_syntax.specs.Kept.{IsKept}
use Rattle.tcq_syntax.specs.Tcq.{IsTcq, Tcq}
use Rattle.formula_store.specs.Interned.{AreDistinct}
use Rattle.answer_tables.specs.Counts.{counted_antichain, count_of}
use Rattle.answer_tables.specs.Lengths.{antichains_in, spread_out}
use Rattle.answer_tables.specs.Table.{Antichains, at}
use Rattle.answer_tables.specs.Tuples.{IsTuple, number}
use Rattle.answer_tables.proofs.CountedRuns.{antichain_there, counted_spread}
use Rattle.progression.specs.declared.kept.Kept.{Kept}
use Rattle.progression.specs.Kept.{FitsNode}
use Rattle.checkpoint_text.specs.declared.checkpoint.Stretch.{Stretch}
use Rattle.checkpoint_text.specs.Suspended.{AreStretches, NodeLists}
use Rattle.progression.proofs.NextKept.{kept_of_query}
use Rattle.checkpoint_state.specs.Resuming.{AreKeptNodes, AreTablesBelow, IsResumed}
use Rattle.checkpoint_state.specs.Resuming.{IsTableOf, run_of}
use Rattle.checkpoint_state.specs.Suspending.{antichains_in_all, node_of, nodes_of, number_in}
use Rattle.checkpoint_state.specs.Suspending.{stretches_of}
use Rattle.checkpoint_state.specs.Telling.{drawn_out, list_at}
use Rattle.checkpoint_state.proofs.Fitting.{no_nodes, some_nodes}
use Rattle.checkpoint_state.proofs.Ordering.{no_antichains}
use Rattle.checkpoint_state.proofs.Rebuilding.{drawn_all, good_of, stretches_back}

-- ---- runs

pub runs_counted : (lists : List (List ℕ)) (ss : List Stretch)
    → count_of (map (run_of lists) ss) ≡ sum_by (λ s. s.count) ss
runs_counted lists [] = refl
runs_counted lists (s ∷ ss) =
    ap (λ (n : ℕ). s.count + n) (runs_counted lists ss)
    ∙ sym (sum_by-cons (λ (r : Stretch). r.count) s ss)

pub runs_some : (lists : List (List ℕ)) (ss : List Stretch) → All (λ s. 0 < s.count) ss
    → All (λ r. 1 ≤ r.0) (map (run_of lists) ss)
runs_some lists [] some = All-nil (λ (r : ℕ × List ℕ). 1 ≤ r.0)
runs_some lists (s ∷ ss) some =
    All-cons (λ (r : ℕ × List ℕ). 1 ≤ r.0) (run_of lists s) (map (run_of lists) ss)
    (let more = All-head (λ (r : Stretch). 0 < r.count) s ss some in omega (arith, more))
    (runs_some lists ss (All-tail (λ (r : Stretch). 0 < r.count) s ss some))

runs_spread : (lists : List (List ℕ)) (ss : List Stretch)
    → spread_out (map (run_of lists) ss) ≡ map (list_at lists) (drawn_out ss)
runs_spread lists [] = refl
runs_spread lists (s ∷ ss) =
    ap (λ (xs : List (List ℕ)). replicate s.count (list_at lists s.list) ++ xs)
    (runs_spread lists ss)
    ∙ ap (λ (xs : List (List ℕ)). xs ++ map (list_at lists) (drawn_out ss))
    (sym (often s.count))
    ∙ sym (map-append (list_at lists) (replicate s.count s.list) (drawn_out ss))
  where
    often : (n : ℕ) → map (list_at lists) (replicate n s.list)
        ≡ replicate n (list_at lists s.list)
    often zero = refl
    often (suc n) = ap (λ (xs : List (List ℕ)). list_at lists s.list ∷ xs) (often n)

-- a table of the runs has the lists
pub table_lists : (lists : List (List ℕ)) (ss : List Stretch) (slots arity : ℕ)
    (runs : List (ℕ × List ℕ)) (table : Antichains) → runs ≡ map (run_of lists) ss
    → sum_by (λ s. s.count) ss ≡ slots ^ arity → table.slots ≡ slots → table.arity ≡ arity
    → ((tuple : List IndId) → IsTuple slots arity tuple
    → at table tuple ≡ counted_antichain runs (number slots tuple))
    → antichains_in table ≡ map (list_at lists) (drawn_out ss)
table_lists lists ss slots arity runs table are whole slots_are arity_is each =
    counted_spread table runs
    (ap count_of are ∙ runs_counted lists ss ∙ whole
    ∙ ap (λ (n : ℕ). n ^ arity) (sym slots_are) ∙ ap (λ (k : ℕ). table.slots ^ k) (sym arity_is))
    (λ tuple is.
    each tuple (subst (λ (k : ℕ). IsTuple slots k tuple) arity_is
    (subst (λ (n : ℕ). IsTuple n table.arity tuple) slots_are is))
    ∙ ap (λ (n : ℕ). counted_antichain runs (number n tuple)) (sym slots_are))
    ∙ ap spread_out are ∙ runs_spread lists ss

-- whether or not there was memory for it
pub tables_told : (lists : List (List ℕ)) (ss : List Stretch) (slots arity : ℕ)
    (runs : List (ℕ × List ℕ)) {E : Type 0} (result : Result Antichains E)
    → runs ≡ map (run_of lists) ss → sum_by (λ s. s.count) ss ≡ slots ^ arity
    → IfOk result (λ t. t.slots ≡ slots) → IfOk result (λ t. t.arity ≡ arity)
    → IfOk result (λ t. (tuple : List IndId) → IsTuple slots arity tuple
    → at t tuple ≡ counted_antichain runs (number slots tuple))
    → IfOk result (λ t. antichains_in t ≡ map (list_at lists) (drawn_out ss))
tables_told lists ss slots arity runs (Ok table) are whole slots_are arity_is each =
    table_lists lists ss slots arity runs table are whole slots_are arity_is each
tables_told lists ss slots arity runs (Err fault) are whole slots_are arity_is each = tt

-- ---- tables of nodes

module _ (lists : List (List ℕ)) (distinct : AreDistinct lists) (query : Tcq) (slots : ℕ) where
  abbrev Stretched : NodeLists → Type 0
  Stretched node = AreStretches lists query (slots ^ query.vars) node.place node.stretches

  abbrev Tabled : NodeLists → ℕ × Antichains → Type 0
  Tabled node entry = IsTableOf lists query slots node entry

  abbrev FitsEntry : ℕ × Antichains → Type 0
  FitsEntry entry = FitsNode query slots entry.0 entry.1

  abbrev KeptAt : NodeLists → Type 0
  KeptAt node = IsKept query.nodes node.place

  places_same : (nodes : List NodeLists) (entries : List (ℕ × Antichains))
      → AllZip Tabled nodes entries
      → map (λ entry. entry.0) entries ≡ map (λ node. node.place) nodes
  places_same [] [] tabled = refl
  places_same [] (e ∷ es) tabled = absurd tabled
  places_same (n ∷ ns) [] tabled = absurd tabled
  places_same (n ∷ ns) (e ∷ es) tabled =
      ap (λ (p : ℕ). p ∷ map (λ (entry : ℕ × Antichains). entry.0) es) tabled.0.place
      ∙ ap (λ (ps : List ℕ). n.place ∷ ps) (places_same ns es tabled.1)

  -- the sets of each antichain lie in the node's part
  entry_own : (node : NodeLists) (e : ℕ × Antichains) → Tabled node e → Stretched node
      → (row : List IndId) → IsRow slots query.vars row
      → All (λ set. Inside set (future_set (formula_at query.nodes e.0))) (at e.1 row)
  entry_own node e tabled are row is =
      let tuple : IsTuple e.1.slots e.1.arity row =
      subst (λ (k : ℕ). IsTuple e.1.slots k row) (sym tabled.arity_is)
      (subst (λ (n : ℕ). IsTuple n query.vars row) (sym tabled.slots_are) is) in
      let there : Contains (map (list_at lists) (drawn_out node.stretches)) (at e.1 row) =
      subst (λ (xs : List (List ℕ)). Contains xs (at e.1 row)) tabled.antichains
      (antichain_there e.1 row tuple) in
      let found = Contains-from_map (list_at lists) (drawn_out node.stretches) (at e.1 row) there in
      let within = drawn_all (λ (n : ℕ). All (λ set.
      Inside set (future_set (formula_at query.nodes node.place))) (list_at lists n))
      node.stretches are.within in
      let place = found.1 in
      subst (λ (p : ℕ). All (λ set. Inside set (future_set (formula_at query.nodes p)))
      (at e.1 row))
      (sym tabled.place)
      (subst (All (λ set. Inside set (future_set (formula_at query.nodes node.place)))) found.2
      (subst (λ (n : ℕ). All (λ set. Inside set (future_set (formula_at query.nodes node.place)))
      (list_at lists n)) place.2 (within place.0 found.0 place.1)))

  entry_fits : (node : NodeLists) (e : ℕ × Antichains) → Tabled node e → Stretched node
      → KeptAt node → FitsEntry e
  entry_fits node e tabled are kept = record {
    kept = subst (IsKept query.nodes) (sym tabled.place) kept;
    slots_are = tabled.slots_are;
    arity_is = tabled.arity_is;
    own = entry_own node e tabled are;
  }

  entries_fit : (nodes : List NodeLists) (entries : List (ℕ × Antichains))
      → AllZip Tabled nodes entries → All Stretched nodes → All KeptAt nodes
      → All FitsEntry entries
  entries_fit [] [] tabled are kept = All-nil FitsEntry
  entries_fit [] (e ∷ es) tabled are kept = absurd tabled
  entries_fit (n ∷ ns) [] tabled are kept = absurd tabled
  entries_fit (n ∷ ns) (e ∷ es) tabled are kept =
      All-cons FitsEntry e es
      (entry_fits n e tabled.0 (All-head Stretched n ns are) (All-head KeptAt n ns kept))
      (entries_fit ns es tabled.1 (All-tail Stretched n ns are) (All-tail KeptAt n ns kept))

  -- what is written of the table is the node
  entry_back : (node : NodeLists) (e : ℕ × Antichains) → Tabled node e → Stretched node
      → node_of lists e ≡ node
  entry_back node e tabled are =
      ap (λ (p : ℕ). made p (node_of lists e).stretches) tabled.place
      ∙ ap (made node.place)
      (ap (λ (xs : List (List ℕ)). stretches_of (map (number_in lists) xs)) tabled.antichains
      ∙ stretches_back lists node.stretches distinct
      (good_of lists query (slots ^ query.vars) node.place node.stretches are))
    where
      made : ℕ → List Stretch → NodeLists
      made place stretches = record { place = place; stretches = stretches }

  entries_back : (nodes : List NodeLists) (entries : List (ℕ × Antichains))
      → AllZip Tabled nodes entries → All Stretched nodes
      → map (node_of lists) entries ≡ nodes
  entries_back [] [] tabled are = refl
  entries_back [] (e ∷ es) tabled are = absurd tabled
  entries_back (n ∷ ns) [] tabled are = absurd tabled
  entries_back (n ∷ ns) (e ∷ es) tabled are =
      ap (λ (m : NodeLists). m ∷ map (node_of lists) es)
      (entry_back n e tabled.0 (All-head Stretched n ns are))
      ∙ ap (λ (ms : List NodeLists). n ∷ ms)
      (entries_back ns es tabled.1 (All-tail Stretched n ns are))

  entries_known : (nodes : List NodeLists) (entries : List (ℕ × Antichains))
      → AllZip Tabled nodes entries → All Stretched nodes
      → All (Contains lists) (antichains_in_all entries)
  entries_known [] [] tabled are = All-nil (Contains lists)
  entries_known [] (e ∷ es) tabled are = absurd tabled
  entries_known (n ∷ ns) [] tabled are = absurd tabled
  entries_known (n ∷ ns) (e ∷ es) tabled are =
      All-append (Contains lists) (antichains_in e.1) (antichains_in_all es)
      (subst (All (Contains lists)) (sym tabled.0.antichains)
      (listed (drawn_out n.stretches)
      (drawn_all (λ (k : ℕ). k < length lists) n.stretches
      (All-head Stretched n ns are).known)))
      (entries_known ns es tabled.1 (All-tail Stretched n ns are))
    where
      listed : (ks : List ℕ) → All (λ k. k < length lists) ks
          → All (Contains lists) (map (list_at lists) ks)
      listed [] below = All-nil (Contains lists)
      listed (k ∷ ks) below =
          All-cons (Contains lists) (list_at lists k) (map (list_at lists) ks) (
            k,
            All-head (λ (m : ℕ). m < length lists) k ks below,
            same k
                (All-head (λ (m : ℕ). m < length lists) k ks below),
          )
          (listed ks (All-tail (λ (m : ℕ). m < length lists) k ks below))
        where
          same : (k : ℕ) → k < length lists → get_or lists k (list_at lists k) ≡ list_at lists k
          same k within = get_or_default lists k (list_at lists k) [] within

  rising_entries : (entries : List (ℕ × Antichains))
      → AllPairs (λ place later. place < later) (map (λ e. e.0) entries)
      → AllPairs (λ e later. e.0 < later.0) entries
  rising_entries [] rising = AllPairs-nil (λ (e later : ℕ × Antichains). e.0 < later.0)
  rising_entries (e ∷ es) rising =
      AllPairs-cons (λ (x later : ℕ × Antichains). x.0 < later.0) e es
      (above es (AllPairs-first (λ (place later : ℕ). place < later) e.0
      (map (λ (x : ℕ × Antichains). x.0) es) rising))
      (rising_entries es (AllPairs-tail (λ (place later : ℕ). place < later) e.0
      (map (λ (x : ℕ × Antichains). x.0) es) rising))
    where
      above : (xs : List (ℕ × Antichains)) → All (λ place. e.0 < place) (map (λ x. x.0) xs)
          → All (λ x. e.0 < x.0) xs
      above [] all = All-nil (λ (x : ℕ × Antichains). e.0 < x.0)
      above (x ∷ xs) all = All-cons (λ (y : ℕ × Antichains). e.0 < y.0) x xs
          (All-head (λ (place : ℕ). e.0 < place) x.0 (map (λ (y : ℕ × Antichains). y.0) xs) all)
          (above xs (All-tail (λ (place : ℕ). e.0 < place) x.0
          (map (λ (y : ℕ × Antichains). y.0) xs) all))

  module _ (accepted : ℕ) (nodes : List NodeLists)
      (are : AreKeptNodes lists slots accepted query nodes) where
    all_kept_at : All KeptAt nodes
    all_kept_at = All-from_contains KeptAt nodes (λ node there.
        ((are.places.exact node.place).0
        (Contains-map (λ (n : NodeLists). n.place) nodes node there)).2)

    -- where there is a node, there was a snapshot, and there is a tuple
    some_there : (ns : List NodeLists) → ns ≡ nodes
        → (ns ≡ []) ⊎ (0 < accepted) × (0 < slots ^ query.vars)
    some_there [] is = inl refl
    some_there (n ∷ ns) is =
        let all = (are.places.exact n.place).0 (Contains-map (λ (m : NodeLists). m.place) nodes n
        (subst (λ (ms : List NodeLists). Contains ms n) is (Contains-first n ns))) in
        inr (all.0, all.1)

    no_entries : (entries : List (ℕ × Antichains)) → AllZip Tabled nodes entries → nodes ≡ []
        → entries ≡ []
    no_entries entries tabled none =
        empty entries (subst (λ (ns : List NodeLists). AllZip Tabled ns entries) none tabled)
      where
        empty : (es : List (ℕ × Antichains)) → AllZip Tabled [] es → es ≡ []
        empty [] zipped = refl
        empty (e ∷ es) zipped = absurd zipped

    written : (entries : List (ℕ × Antichains)) → AllZip Tabled nodes entries
        → nodes_of lists entries ≡ nodes
    written entries tabled = go (some_there nodes refl)
      where
        go : (nodes ≡ []) ⊎ (0 < accepted) × (0 < slots ^ query.vars)
            → nodes_of lists entries ≡ nodes
        go (inl none) = ap (nodes_of lists) (no_entries entries tabled none) ∙ sym none
        go (inr more) =
            some_nodes lists query slots more.1 entries
            (entries_fit nodes entries tabled are.each all_kept_at)
            ∙ entries_back nodes entries tabled are.each

    pub resumed_tables : (kept : Kept) → kept.count ≡ accepted
        → (0 < slots ^ query.vars) ⊎ (accepted ≡ 0) → AllZip Tabled nodes kept.tables.items
        → IsResumed lists slots accepted query nodes kept
    resumed_tables kept counted either tabled =
        let entries : List (ℕ × Antichains) = kept.tables.items in
        let same : map (λ entry. entry.0) entries ≡ map (λ node. node.place) nodes =
        places_same nodes entries tabled in
        record {
          count = counted;
          fits = record {
            none = λ zero_is. elim (some_there nodes refl) [
              | inl none ↦ no_entries entries tabled none
              | inr more ↦ absurd (let some = more.0 in omega (arith, zero_is, counted, some))
            ];
            rising = rising_entries entries
                (subst (AllPairs (λ place later. place < later)) (sym same) are.places.rising);
            tables = entries_fit nodes entries tabled are.each all_kept_at;
            complete = λ some place kept_there. elim either [
              | inl more ↦ subst (λ (ps : List ℕ). Contains ps place) (sym same)
                  ((are.places.exact place).1 (omega (arith, some, counted), more, kept_there))
              | inr none ↦ absurd (omega (arith, some, counted, none))
            ];
          };
          nodes_are = written entries tabled;
          known = entries_known nodes entries tabled are.each;
        }

    -- where there is no tuple
    pub resumed_empty : (valid : IsTcq query.vars query.nodes) (kept : Kept) (count : ℕ)
        → kept.count ≡ accepted → 0 < accepted → slots ^ query.vars ≡ 0
        → count ≡ length query.nodes → AreTablesBelow query slots count kept.tables.items
        → IsResumed lists slots accepted query nodes kept
    resumed_empty valid kept count counted some none all below = record {
      count = counted;
      fits = record {
        none = λ zero_is. absurd (omega (arith, zero_is, counted, some));
        rising = below.rising;
        tables = below.each;
        complete = λ more place kept_there. below.complete place
            (let within = kept_of_query query valid place kept_there in
            omega (arith, within, all)) kept_there;
      };
      nodes_are = no_nodes lists query slots none kept.tables.items below.each
          ∙ sym (empty (some_there nodes refl));
      known = nothing kept.tables.items below.each;
    }
      where
        empty : (nodes ≡ []) ⊎ (0 < accepted) × (0 < slots ^ query.vars) → nodes ≡ []
        empty (inl is) = is
        empty (inr more) = absurd (let tuples = more.1 in omega (arith, none, tuples))

        nothing : (es : List (ℕ × Antichains)) → All FitsEntry es
            → All (Contains lists) (antichains_in_all es)
        nothing [] fits = All-nil (Contains lists)
        nothing (e ∷ es) fits =
            subst (λ (xs : List (List ℕ)). All (Contains lists) (xs ++ antichains_in_all es))
            (sym (no_antichains e.1
            (ap (λ (n : ℕ). n ^ e.1.arity) (All-head FitsEntry e es fits).slots_are
            ∙ ap (λ (k : ℕ). slots ^ k) (All-head FitsEntry e es fits).arity_is ∙ none)))
            (nothing es (All-tail FitsEntry e es fits))
