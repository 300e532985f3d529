-- A monitor stands for exactly the histories whose checkpoint is written of it.
use Rattle.std.proofs.Common.{◌≡◌, ℕ, ◌+◌, ◌-◌, ◌^◌, ◌<◌, ◌≤◌, Bool, true, false, cond}
use Rattle.std.proofs.Common.{List, [], ◌∷◌, length, take, drop, refl, sym, ◌∙◌, ap, subst}
use Rattle.std.proofs.Common.{arith, inl, inr}
use Rattle.std.specs.Prelude.{◌⊎◌, ◌≢◌, All, None, Some, map, not}
use Rattle.std.specs.List.{AllZip, Contains}
use Rattle.std.proofs.lemmas.Bool.Decides.{eqb_tells}
use Rattle.std.proofs.lemmas.List.{length-drop, length-take-le}
use Rattle.std.proofs.lemmas.List.Elements.{All-cons, All-head, All-nil, All-tail}
use Rattle.list_lemmas.proofs.Elements.{All-back, All-front}
use Rattle.dl_syntax.specs.declared.names.IndId.{IndId}
use Rattle.dl_syntax.specs.declared.ontology.Inclusion.{Inclusion}
use Rattle.tcq_syntax.specs.Answers.{IsRow}
use Rattle.tcq_syntax.specs.End.{IsMinimal}
use Rattle.tcq_syntax.specs.Formula.{formula_at}
use Rattle.tcq_syntax.specs.Histories.{HasIndividualsBelow, History}
use Rattle.tcq_syntax.specs.Sizes.{futures}
use Rattle.tcq_syntax.specs.Tcq.{Tcq}
use Rattle.answer_tables.specs.Lengths.{antichains_in}
use Rattle.answer_tables.specs.Table.{Antichains, at}
use Rattle.answer_tables.specs.Tuples.{tuples}
use Rattle.answer_tables.proofs.CountedRuns.{antichain_there}
use Rattle.progression.specs.declared.kept.Kept.{Kept}
use Rattle.progression.specs.Kept.{FitsNode, StandsFor}
use Rattle.monitor_core.specs.Keeping.{AllFit, Monitored}
use Rattle.monitor_core.specs.Standing.{Stands, came_with, count_of}
use Rattle.checkpoint_text.specs.Suspended.{IsSuspended, NodeLists, slots_with}
use Rattle.checkpoint_state.specs.Suspending.{all_nodes, antichains_in_all, antichains_of, frame_of}
use Rattle.checkpoint_state.specs.Suspending.{kept_lists, names_of_monitor, node_of, nodes_of}
use Rattle.checkpoint_state.specs.Suspending.{number_in, suspended}
use Rattle.checkpoint_state.specs.Telling.{AreNamesOf, IsCheckpointOf, IsNodeOf, drawn_out, list_at}
use Rattle.checkpoint_state.proofs.AllTuples.{image_of, tuples_all, tuples_only, zipped_images}
use Rattle.checkpoint_state.proofs.Fitting.{lists_known}
use Rattle.checkpoint_state.proofs.Interning.{number_found}
use Rattle.checkpoint_state.proofs.Ordering.{has_none, no_antichains, nodes_none, nodes_some}
use Rattle.checkpoint_state.proofs.Stretching.{stretches_are}

-- ---- the nodes of a query

module _ (lists : List (List ℕ)) (inclusions : List Inclusion) (history : History) (query : Tcq)
    (slots : ℕ) where
  abbrev Least : ℕ → List IndId → List ℕ → Type 0
  Least place row sets = IsMinimal inclusions history (futures query.nodes)
      (formula_at query.nodes place) row sets

  -- the table has the minimal sets
  abbrev IsLeast : ℕ × Antichains → Type 0
  IsLeast e = (row : List IndId) → IsRow slots query.vars row → Least e.0 row (at e.1 row)

  abbrev FitsEntry : ℕ × Antichains → Type 0
  FitsEntry e = FitsNode query slots e.0 e.1

  abbrev rows : List (List IndId)
  rows = tuples slots query.vars

  abbrev Numbered : ℕ → List IndId → ℕ → Type 0
  Numbered place row number = Least place row (list_at lists number)

  antichains_are : (e : ℕ × Antichains) → FitsEntry e → antichains_in e.1 ≡ map (at e.1) rows
  antichains_are e node =
      ap (λ (n : ℕ). map (at e.1) (tuples n e.1.arity)) node.slots_are
      ∙ ap (λ (k : ℕ). map (at e.1) (tuples slots k)) node.arity_is

  -- the numbers of the node's tuples
  numbers_are : (e : ℕ × Antichains) → FitsEntry e
      → drawn_out (node_of lists e).stretches ≡ map (number_in lists) (map (at e.1) rows)
  numbers_are e node =
      (stretches_are (map (number_in lists) (antichains_in e.1))).drawn
      ∙ ap (map (number_in lists)) (antichains_are e node)

  -- the list with the number of a tuple's antichain is this
  antichain_back : (e : ℕ × Antichains) → FitsEntry e → All (Contains lists) (antichains_in e.1)
      → (row : List IndId) → IsRow slots query.vars row
      → list_at lists (number_in lists (at e.1 row)) ≡ at e.1 row
  antichain_back e node known row is =
      let own : (length row ≡ e.1.arity) × All (λ i. i.0 < e.1.slots) row =
      subst (λ (k : ℕ). (length row ≡ k) × All (λ i. i.0 < e.1.slots) row) (sym node.arity_is)
      (subst (λ (n : ℕ). (length row ≡ query.vars) × All (λ i. i.0 < n) row)
      (sym node.slots_are) is) in
      let there = antichain_there e.1 row own in
      (number_found lists (at e.1 row)
      (subst (Contains lists) there.2 (known there.0 (at e.1 row) there.1))).1

  entry_written : (e : ℕ × Antichains) → FitsEntry e → All (Contains lists) (antichains_in e.1)
      → IsLeast e → IsNodeOf inclusions history query slots lists (node_of lists e)
  entry_written e node known least =
      subst (λ (ns : List ℕ). AllZip (Numbered e.0) rows ns) (sym (numbers_are e node))
      (zipped_images (Numbered e.0) (at e.1) (number_in lists) rows (λ row there.
      let is = tuples_only slots query.vars row there in
      subst (Least e.0 row) (sym (antichain_back e node known row is)) (least row is)))

  entry_told : (e : ℕ × Antichains) → FitsEntry e → All (Contains lists) (antichains_in e.1)
      → IsNodeOf inclusions history query slots lists (node_of lists e) → IsLeast e
  entry_told e node known written row is =
      subst (Least e.0 row) (antichain_back e node known row is)
      (image_of (Numbered e.0) (at e.1) (number_in lists) rows
      (subst (λ (ns : List ℕ). AllZip (Numbered e.0) rows ns) (numbers_are e node) written)
      row (tuples_all slots query.vars row is))

  -- a table without tuples has no row
  no_row : (e : ℕ × Antichains) → FitsEntry e → e.1.slots ^ e.1.arity ≡ 0 → IsLeast e
  no_row e node none row is =
      let there : Contains (antichains_in e.1) (at e.1 row) =
      antichain_there e.1 row
      (subst (λ (k : ℕ). (length row ≡ k) × All (λ i. i.0 < e.1.slots) row) (sym node.arity_is)
      (subst (λ (n : ℕ). (length row ≡ query.vars) × All (λ i. i.0 < n) row)
      (sym node.slots_are) is)) in
      let found : Contains [] (at e.1 row) =
      subst (λ (xs : List (List ℕ)). Contains xs (at e.1 row)) (no_antichains e.1 none) there in
      absurd (let l = found.1 in omega (arith, l))

  abbrev Written : NodeLists → Type 0
  Written node = IsNodeOf inclusions history query slots lists node

  pub nodes_written : (es : List (ℕ × Antichains)) → All FitsEntry es
      → All (Contains lists) (antichains_in_all es) → All IsLeast es
      → All Written (nodes_of lists es)
  nodes_written [] fits known least = All-nil Written
  nodes_written (e ∷ es) fits known least =
      go (eqb_tells (e.1.slots ^ e.1.arity) 0)
      (nodes_written es (All-tail FitsEntry e es fits)
      (All-back (Contains lists) (antichains_in e.1) (antichains_in_all es) known)
      (All-tail IsLeast e es least))
    where
      go : ((has_none e ≡ true) × (e.1.slots ^ e.1.arity ≡ 0))
          ⊎ ((has_none e ≡ false) × (e.1.slots ^ e.1.arity ≢ 0)) → All Written (nodes_of lists es)
          → All Written (nodes_of lists (e ∷ es))
      go (inl none) rest = subst (All Written) (sym (nodes_none lists e es none.0)) rest
      go (inr some) rest = subst (All Written) (sym (nodes_some lists e es some.0))
          (All-cons Written (node_of lists e) (nodes_of lists es)
          (entry_written e (All-head FitsEntry e es fits)
          (All-front (Contains lists) (antichains_in e.1) (antichains_in_all es) known)
          (All-head IsLeast e es least)) rest)

  pub nodes_tell : (es : List (ℕ × Antichains)) → All FitsEntry es
      → All (Contains lists) (antichains_in_all es) → All Written (nodes_of lists es)
      → All IsLeast es
  nodes_tell [] fits known written = All-nil IsLeast
  nodes_tell (e ∷ es) fits known written =
      go (eqb_tells (e.1.slots ^ e.1.arity) 0)
      (nodes_tell es (All-tail FitsEntry e es fits)
      (All-back (Contains lists) (antichains_in e.1) (antichains_in_all es) known))
    where
      node : FitsEntry e
      node = All-head FitsEntry e es fits

      go : ((has_none e ≡ true) × (e.1.slots ^ e.1.arity ≡ 0))
          ⊎ ((has_none e ≡ false) × (e.1.slots ^ e.1.arity ≢ 0))
          → (All Written (nodes_of lists es) → All IsLeast es) → All IsLeast (e ∷ es)
      go (inl none) rest = All-cons IsLeast e es (no_row e node none.1)
          (rest (subst (All Written) (nodes_none lists e es none.0) written))
      go (inr some) rest =
          let all : All Written (node_of lists e ∷ nodes_of lists es) =
          subst (All Written) (nodes_some lists e es some.0) written in
          All-cons IsLeast e es
          (entry_told e node
          (All-front (Contains lists) (antichains_in e.1) (antichains_in_all es) known)
          (All-head Written (node_of lists e) (nodes_of lists es) all))
          (rest (All-tail Written (node_of lists e) (nodes_of lists es) all))

-- ---- all queries

module _ (lists : List (List ℕ)) (inclusions : List Inclusion) (history : History) (slots : ℕ) where
  abbrev WrittenOf : Tcq → List NodeLists → Type 0
  WrittenOf query nodes = All (IsNodeOf inclusions history query slots lists) nodes

  pub all_written : (queries : List Tcq) (kept : List Kept) → AllFit slots queries kept
      → All (Contains lists) (antichains_of kept)
      → AllZip (StandsFor inclusions slots history) queries kept
      → AllZip WrittenOf queries (all_nodes lists kept)
  all_written [] [] fits known stand = tt
  all_written [] (k ∷ ks) fits known stand = absurd fits
  all_written (q ∷ qs) [] fits known stand = absurd fits
  all_written (q ∷ qs) (k ∷ ks) fits known stand = (
    nodes_written lists inclusions history q slots k.tables.items fits.0.tables
        (All-front (Contains lists) (antichains_in_all k.tables.items) (antichains_of ks) known)
        stand.0.minimal,
    all_written qs ks fits.1
        (All-back (Contains lists) (antichains_in_all k.tables.items) (antichains_of ks) known)
        stand.1,
  )

  pub all_tell : (queries : List Tcq) (kept : List Kept) → AllFit slots queries kept
      → All (Contains lists) (antichains_of kept) → All (λ k. k.count ≡ count_of history) kept
      → AllZip WrittenOf queries (all_nodes lists kept)
      → AllZip (StandsFor inclusions slots history) queries kept
  all_tell [] [] fits known counts written = tt
  all_tell [] (k ∷ ks) fits known counts written = absurd fits
  all_tell (q ∷ qs) [] fits known counts written = absurd fits
  all_tell (q ∷ qs) (k ∷ ks) fits known counts written = (
    record {
      counted = All-head (λ (x : Kept). x.count ≡ count_of history) k ks counts;
      minimal = nodes_tell lists inclusions history q slots k.tables.items fits.0.tables
          (All-front (Contains lists) (antichains_in_all k.tables.items) (antichains_of ks) known)
          written.0;
    },
    all_tell qs ks fits.1
        (All-back (Contains lists) (antichains_in_all k.tables.items) (antichains_of ks) known)
        (All-tail (λ (x : Kept). x.count ≡ count_of history) k ks counts) written.1,
  )

-- ---- the whole

-- what is used of a monitor
pub record AreParts (m : Monitored) : Type 0 where
  pub counts : All (λ k. k.count ≡ m.state.count) m.state.kept.items
  pub fits : AllFit m.plan.slots m.plan.queries.items m.state.kept.items
  pub slots : slots_with (frame_of m).ontology (names_of_monitor m) ≡ m.plan.slots
  pub came : m.declared ≤ length m.plan.ontology.individuals
  pub closed : m.strangers ≡ false → m.declared ≡ 0

module _ (m : Monitored) (history : History) (are : AreParts m) where
  abbrev individuals : List (List ℕ)
  individuals = m.plan.ontology.individuals

  abbrev own : ℕ
  own = length individuals - m.declared

  -- all individuals are the own ones and those that came
  all_individuals : (names : List (List ℕ)) → names ≡ came_with m
      → length (take own individuals) + length names ≡ length individuals
  all_individuals names same =
      let came = are.came in
      let long : length names ≡ length (drop own individuals) =
      ap (λ (xs : List (List ℕ)). length xs) same in
      omega (
        arith,
        long,
        length-drop own individuals,
        length-take-le own individuals (omega arith),
        came,
      )

  none_came : m.strangers ≡ false → came_with m ≡ []
  none_came shut =
      let none = are.closed shut in
      empty (drop own individuals) (omega (arith, length-drop own individuals, none))
    where
      empty : (xs : List (List ℕ)) → length xs ≡ 0 → xs ≡ []
      empty [] long = refl
      empty (x ∷ xs) long = absurd (omega (arith, long))

  names_written : (b : Bool) → b ≡ m.strangers → history.is_closed ≡ not m.strangers
      → history.names ≡ came_with m
      → AreNamesOf history (cond b (Some (came_with m)) None)
  names_written true is closed same = (closed ∙ ap not (sym is), same)
  names_written false is closed same = (closed ∙ ap not (sym is), same ∙ none_came (sym is))

  names_told : (b : Bool) → b ≡ m.strangers
      → AreNamesOf history (cond b (Some (came_with m)) None)
      → (history.is_closed ≡ not m.strangers) × (history.names ≡ came_with m)
  names_told true is told = (told.0 ∙ ap not is, told.1)
  names_told false is told = (told.0 ∙ ap not is, told.1 ∙ sym (none_came (sym is)))

  pub stands_written : IsSuspended (frame_of m) (suspended m) → Stands m history
      → IsCheckpointOf (frame_of m) history (suspended m)
  stands_written fits stands = record {
    fits = fits;
    names = names_written m.strangers refl stands.closed stands.names;
    known = subst (λ (n : ℕ). HasIndividualsBelow n history)
        (sym (all_individuals history.names stands.names)) stands.known;
    counted = stands.counted;
    minimal = subst (λ (n : ℕ). AllZip (λ query nodes. All (IsNodeOf m.plan.ontology.inclusions
        history query n (kept_lists m.state.kept.items)) nodes) m.plan.queries.items
        (all_nodes (kept_lists m.state.kept.items) m.state.kept.items)) (sym are.slots)
        (all_written (kept_lists m.state.kept.items) m.plan.ontology.inclusions history
        m.plan.slots m.plan.queries.items m.state.kept.items are.fits
        (lists_known m.state.kept.items) stands.kept);
  }

  pub written_stands : IsCheckpointOf (frame_of m) history (suspended m) → Stands m history
  written_stands is =
      let names = names_told m.strangers refl is.names in
      record {
        counted = is.counted;
        closed = names.0;
        names = names.1;
        known = subst (λ (n : ℕ). HasIndividualsBelow n history)
            (all_individuals history.names names.1) is.known;
        kept = all_tell (kept_lists m.state.kept.items) m.plan.ontology.inclusions history
            m.plan.slots m.plan.queries.items m.state.kept.items are.fits
            (lists_known m.state.kept.items)
            (subst (λ (n : ℕ). All (λ k. k.count ≡ n) m.state.kept.items) is.counted are.counts)
            (subst (λ (n : ℕ). AllZip (λ query nodes. All (IsNodeOf m.plan.ontology.inclusions
            history query n (kept_lists m.state.kept.items)) nodes) m.plan.queries.items
            (all_nodes (kept_lists m.state.kept.items) m.state.kept.items)) are.slots is.minimal);
      }
