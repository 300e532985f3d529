-- The antichains that are kept are the minimal sets of the kept nodes.
use Rattle.std.proofs.Common.{◌≡◌, ℕ, zero, suc, ◌+◌, ◌*◌, ◌^◌, ◌<◌, true, false, List, [], ◌∷◌}
use Rattle.std.proofs.Common.{length, map, refl, sym, ap, subst, arith, inl, inr}
use Rattle.std.specs.Prelude.{All, Some, slice_get, Bool, not, if◌then◌else◌, ◌≤◌}
use Rattle.std.specs.List.{AllZip, Contains, sum_by}
use Rattle.std.proofs.lemmas.List.Elements.{All-contains}
use Rattle.dl_syntax.specs.declared.names.IndId.{IndId}
use Rattle.dl_syntax.specs.declared.ontology.Inclusion.{Inclusion}
use Rattle.std.proofs.Math.Nat.{pow-le-pow_left, mul-le-mul_left}
use Rattle.std.proofs.lemmas.Nat.{mul-le}
use Rattle.std.proofs.lemmas.List.Sums.{sum_by-cons, sum_by-le-sum_by}
use Rattle.std.proofs.lemmas.Option.{slice_get_within, get_or_from_slice_get}
use Rattle.list_lemmas.proofs.Elements.{Contains-none, Contains-first, Contains-later}
use Rattle.list_lemmas.proofs.Elements.{Contains-cons_cases, Contains-single}
use Rattle.tcq_syntax.specs.Tcq.{Tcq, IsTcq}
use Rattle.tcq_syntax.specs.Formula.{formula_at}
use Rattle.tcq_syntax.specs.Histories.{History, slots_of}
use Rattle.tcq_syntax.specs.Answers.{IsRow}
use Rattle.tcq_syntax.specs.End.{IsMinimal}
use Rattle.tcq_syntax.specs.Sizes.{futures, units_of}
use Rattle.tcq_syntax.specs.Kept.{IsKeptAt, AreKept}
use Rattle.tcq_syntax.proofs.OneList.{one_minimal}
use Rattle.answer_tables.specs.Tuples.{IsTuple}
use Rattle.answer_tables.specs.Table.{Antichains, at}
use Rattle.progression.specs.declared.kept.Kept.{Kept}
use Rattle.progression.specs.Kept.{Fits, FitsNode, StandsFor}
use Rattle.std.proofs.lemmas.Slice.Zip.{AllZip-long}
use Rattle.tcq_syntax.specs.Kept.{IsKeptSize}
use Rattle.monitor_core.specs.Keeping.{KeepsOf, IsStoreOf, IsSetCountOf, Monitored, IsMonitored}
use Rattle.monitor_core.specs.Answering.{own_count}
use Rattle.monitor_core.specs.Standing.{Stands, setting_of, units_in, IsFewAt}
use Rattle.monitor_core.proofs.Accepting.{few_names, stranger_slot}
use Rattle.monitor_core.proofs.Placing.{all_zip_at}
use Rattle.antichains.specs.Antichain.{IsAntichain}
use Rattle.monitor_core.proofs.OneQuery.{fit_at}
use Rattle.monitor_core.proofs.Bounds.{store_few}

-- the one that stands with an element of the second list, and with one of the first
pub with_second : {A B : Type 0} (R : A → B → Type 0) (xs : List A) (ys : List B) (y : B)
    → AllZip R xs ys → Contains ys y → (x : A) × Contains xs x × R x y
with_second R [] [] y zipped there = absurd (Contains-none y there)
with_second R [] (w ∷ ys) y zipped there = absurd zipped
with_second R (x ∷ xs) [] y zipped there = absurd zipped
with_second {A = A} R (x ∷ xs) (w ∷ ys) y zipped there =
    elim (Contains-cons_cases w ys y there) [
      | inl same ↦ (x, Contains-first x xs, subst (R x) same zipped.0)
      | inr later ↦ (let found : (v : A) × Contains xs v × R v y =
          with_second R xs ys y zipped.1 later in
          (found.0, Contains-later x xs found.0 found.1, found.2))
    ]

pub with_first : {A B : Type 0} (R : A → B → Type 0) (xs : List A) (ys : List B) (x : A)
    → AllZip R xs ys → Contains xs x → (y : B) × Contains ys y × R x y
with_first R [] [] x zipped there = absurd (Contains-none x there)
with_first R [] (w ∷ ys) x zipped there = absurd zipped
with_first R (v ∷ xs) [] x zipped there = absurd zipped
with_first {B = B} R (v ∷ xs) (w ∷ ys) x zipped there =
    elim (Contains-cons_cases v xs x there) [
      | inl same ↦ (w, Contains-first w ys, subst (λ z. R z w) same zipped.0)
      | inr later ↦ (let found : (y : B) × Contains ys y × R x y =
          with_first R xs ys x zipped.1 later in
          (found.0, Contains-later w ys found.0 found.1, found.2))
    ]

pub zip_both : {A B : Type 0} (R S : A → B → Type 0) (xs : List A) (ys : List B) → AllZip R xs ys
    → AllZip S xs ys → AllZip (λ x y. R x y × S x y) xs ys
zip_both R S [] [] one other = tt
zip_both R S [] (y ∷ ys) one other = absurd one
zip_both R S (x ∷ xs) [] one other = absurd one
zip_both R S (x ∷ xs) (y ∷ ys) one other = ((one.0, other.0), zip_both R S xs ys one.1 other.1)

-- the entry of a place
entry_of : (entries : List (ℕ × Antichains)) (place : ℕ)
    → Contains (map (λ (e : ℕ × Antichains). e.0) entries) place
    → (table : Antichains) × Contains entries (place, table)
entry_of [] place there = absurd (Contains-none place there)
entry_of (e ∷ entries) place there =
    elim (Contains-cons_cases e.0 (map (λ (x : ℕ × Antichains). x.0) entries) place there) [
      | inl same ↦ (
        e.1,
        subst (λ (p : ℕ). Contains (e ∷ entries) (p, e.1)) same
            (Contains-first e entries),
      )
      | inr later ↦ (let found : (table : Antichains) × Contains entries (place, table) =
          entry_of entries place later in
          (found.0, Contains-later e entries (place, found.0) found.1))
    ]

module _ (inclusions : List Inclusion) (count slots : ℕ) (history : History)
    (same_slots : slots_of count history ≡ slots) where
  module _ (query : Tcq) (k : Kept) (fits : Fits query slots k)
      (stands : StandsFor inclusions slots history query k) where
    has_snapshots : (place : ℕ) (table : Antichains) → Contains k.tables.items (place, table)
        → (length history.snapshots ≡ 0 → ⊥)
    has_snapshots place table there none =
        let counted : k.count ≡ 0 = omega (arith, stands.counted, none) in
        Contains-none (place, table) (subst (λ (es : List (ℕ × Antichains)).
        Contains es (place, table)) (fits.none counted) there)

    kept_at : (place : ℕ) (table : Antichains) → Contains k.tables.items (place, table)
        → (row : List IndId) → IsTuple table.slots table.arity row
        → IsKeptAt inclusions count history query place row (at table row)
    kept_at place table there row tuple =
        let node : FitsNode query slots place table =
        All-contains (λ (e : ℕ × Antichains).
        FitsNode query slots e.0 e.1) k.tables.items (place, table) fits.tables there in
        let here : IsRow slots query.vars row =
        subst (λ (n : ℕ). IsRow n query.vars row) node.slots_are
        (subst (λ (v : ℕ). IsRow table.slots v row) node.arity_is tuple) in
        let minimal = All-contains (λ (e : ℕ × Antichains). (r : List IndId)
        → IsRow slots query.vars r
        → IsMinimal inclusions history (futures query.nodes) (formula_at query.nodes e.0) r
        (at e.1 r)) k.tables.items (place, table) stands.minimal there in
        let some = has_snapshots place table there in
        record {
          has_snapshot = positive (length history.snapshots) some;
          kept = node.kept;
          row_of_slots = subst (λ (n : ℕ). IsRow n query.vars row) (sym same_slots) here;
          minimal = minimal row here;
        }
      where
        positive : (n : ℕ) → (n ≡ 0 → ⊥) → 0 < n
        positive zero not = absurd (not refl)
        positive (suc n) not = omega arith

    at_kept : (place : ℕ) (row : List IndId) (sets : List ℕ)
        → IsKeptAt inclusions count history query place row sets → KeepsOf k sets
    at_kept place row sets is =
        let counted : 0 < k.count = omega (arith, stands.counted, is.has_snapshot) in
        let (table, there) =
        entry_of k.tables.items place (fits.complete counted place is.kept) in
        let node : FitsNode query slots place table =
        All-contains (λ (e : ℕ × Antichains).
        FitsNode query slots e.0 e.1) k.tables.items (place, table) fits.tables there in
        let here : IsRow slots query.vars row =
        subst (λ (n : ℕ). IsRow n query.vars row) same_slots is.row_of_slots in
        let minimal = All-contains (λ (e : ℕ × Antichains). (r : List IndId)
        → IsRow slots query.vars r
        → IsMinimal inclusions history (futures query.nodes) (formula_at query.nodes e.0) r
        (at e.1 r)) k.tables.items (place, table) stands.minimal there in
        let same : at table row ≡ sets =
        one_minimal inclusions history (futures query.nodes) (formula_at query.nodes place) row
        (at table row) sets (minimal row here) is.minimal in
        let tuple : IsTuple table.slots table.arity row =
        subst (λ (n : ℕ). IsTuple n table.arity row) (sym node.slots_are)
        (subst (λ (v : ℕ). IsTuple slots v row) (sym node.arity_is) here) in
        (place, table, there, (row, tuple, same))

  abbrev Keeps : Tcq → Kept → Type 0
  Keeps query k = Fits query slots k × StandsFor inclusions slots history query k

  -- what is stored is what is kept of the queries, each list once
  pub are_kept : (queries : List Tcq) (kept : List Kept) (store : List (List ℕ))
      → AllZip (λ (q : Tcq) (k : Kept). Fits q slots k) queries kept
      → AllZip (StandsFor inclusions slots history) queries kept → IsStoreOf kept store
      → AreKept inclusions count history queries store
  are_kept queries kept store fit stand stored =
      let both : AllZip Keeps queries kept =
      zip_both (λ (q : Tcq) (k : Kept). Fits q slots k) (StandsFor inclusions slots history)
      queries kept fit stand in
      record {
        distinct = stored.distinct;
        member = λ sets. (
          λ there.
              let (k, in_kept, (place, table, in_tables, (row, tuple, same))) =
              (stored.exact sets).0 there in
              let (query, in_queries, keeps) = with_second Keeps queries kept k both in_kept in (
                query,
                place,
                row,
                in_queries,
                subst (IsKeptAt inclusions count history query place row) same
                    (kept_at query k keeps.0 keeps.1 place table in_tables row tuple),
              ),
          λ (query, place, row, in_queries, is).
              let (k, in_kept, keeps) = with_first Keeps queries kept query both in_queries in
              (stored.exact sets).1 (
                k,
                in_kept,
                at_kept query k keeps.0 keeps.1 place row sets
                    is,
              ),
        );
      }

-- the slot of the stranger of a history, where there is one
abbrev open_slot : Bool → ℕ
open_slot closed = if closed then 0 else 1

-- so many slots are those of the history
slots_in : (m : Monitored) (history : History) → IsMonitored m → Stands m history
    → slots_of (own_count m.plan.ontology history) history ≡ m.plan.slots
slots_in m history is stands =
    omega (
      arith,
      few_names m history stands,
      is.slots,
      open_slots history.is_closed m.strangers stands.closed,
    )
  where
    open_slots : (closed strangers : Bool) → closed ≡ not strangers
        → open_slot closed ≡ stranger_slot strangers
    open_slots closed true same = ap open_slot same
    open_slots closed false same = ap open_slot same

-- a monitor's store has what is kept of its queries
pub held_size : (m : Monitored) (history : History) (size : ℕ) → IsMonitored m
    → size ≡ sum_by length m.state.store → Stands m history
    → IsKeptSize (setting_of m).ontology.inclusions (own_count (setting_of m).ontology history)
    history (setting_of m).queries size
unfolding setting_of
held_size m history size is size_is stands = (
  m.state.store,
  are_kept m.plan.ontology.inclusions (own_count m.plan.ontology history) m.plan.slots history
      (slots_in m history is stands) m.plan.queries.items m.state.kept.items m.state.store is.fits
      stands.kept is.state.stored,
  size_is,
)

-- and so of one query
pub query_size : (m : Monitored) (history : History) (place : ℕ) (query : Tcq) (k : Kept) (size : ℕ)
    → IsMonitored m → slice_get m.state.kept.items place ≡ Some k → IsSetCountOf k size
    → Stands m history → slice_get (setting_of m).queries place ≡ Some query
    → IsKeptSize (setting_of m).ontology.inclusions (own_count (setting_of m).ontology history)
    history (query ∷ []) size
unfolding setting_of
query_size m history place query k size is there (store, stored, antichains, size_is) stands
    query_there =
    let o = m.plan.ontology in
    let slots = m.plan.slots in
    let fits : Fits query slots k =
    fit_at slots m.plan.queries.items m.state.kept.items place query k is.fits query_there there in
    let stand : StandsFor o.inclusions slots history query k =
    all_zip_at (StandsFor o.inclusions slots history) m.plan.queries.items m.state.kept.items place
    query k stands.kept query_there there in (
      store,
      are_kept o.inclusions (own_count o history) slots history (slots_in m history is stands)
          (query ∷ []) (k ∷ []) store (fits, tt) (stand, tt) stored,
      size_is,
    )

pub few_kept : (m : Monitored) (place : ℕ) → IsMonitored m → place < length (setting_of m).queries
    → (place < 16) × (place < length m.state.kept.items)
unfolding setting_of
few_kept m place is within =
    let long : length m.state.kept.items ≡ length m.plan.queries.items =
    AllZip-long (λ (q : Tcq) (k : Kept). Fits q m.plan.slots k) m.plan.queries.items
    m.state.kept.items is.fits in
    (omega (arith, is.plan.within.few), omega arith)

-- more individuals have no fewer units
units_of-more : (few many : ℕ) → few ≤ many → (query : Tcq)
    → units_of few query ≤ units_of many query
units_of-more few many more query =
    let rows : few ^ query.vars ≤ many ^ query.vars = pow-le-pow_left more query.vars in
    let each : length query.nodes * few ^ query.vars ≤ length query.nodes * many ^ query.vars =
    mul-le-mul_left (length query.nodes) rows in
    mul-le (length query.nodes * few ^ query.vars) (2 ^ futures query.nodes)
    (length query.nodes * many ^ query.vars) (2 ^ futures query.nodes) each (omega arith)

-- a monitor holds no more than the units of what it watches
pub held_few : (m : Monitored) (size : ℕ) → IsMonitored m → size ≡ sum_by length m.state.store
    → All IsAntichain m.state.store → size ≤ units_in (setting_of m)
unfolding setting_of
held_few m size is size_is antichains =
    let most = length m.plan.ontology.individuals + 1 in
    let table : (query : Tcq) → Contains m.plan.queries.items query
    → IsTcq query.vars query.nodes =
    λ query there. All-contains (λ (q : Tcq).
    IsTcq q.vars q.nodes) m.plan.queries.items query is.plan.tables there in
    omega (
      arith,
      size_is,
      store_few m.plan.slots m.plan.queries.items m.state.kept.items m.state.store table is.fits
          is.state.stored antichains,
      sum_by-le-sum_by (units_of m.plan.slots) (units_of most) m.plan.queries.items
          (units_of-more m.plan.slots most is.plan.few_slots),
    )

-- and keeps of one query no more than its units
pub size_few : (m : Monitored) (place : ℕ) (k : Kept) (size : ℕ) → IsMonitored m
    → slice_get m.state.kept.items place ≡ Some k → IsSetCountOf k size
    → IsFewAt (setting_of m) place size
unfolding setting_of
size_few m place k size is there (store, stored, antichains, size_is) query query_there =
    let slots = m.plan.slots in
    let queries = m.plan.queries.items in
    let fits : Fits query slots k =
    fit_at slots queries m.state.kept.items place query k is.fits query_there there in
    let in_queries : Contains queries query = (
      place,
      slice_get_within queries place query query_there,
      get_or_from_slice_get queries
          place query query query_there,
    ) in
    let table : IsTcq query.vars query.nodes =
    All-contains (λ (q : Tcq). IsTcq q.vars q.nodes) queries query is.plan.tables in_queries in
    omega (
      arith,
      size_is,
      sum_by-cons (units_of slots) query [],
      store_few slots (query ∷ []) (k ∷ []) store (λ q one.
          subst (λ (x : Tcq). IsTcq x.vars x.nodes) (Contains-single query q one) table) (fits, tt)
          stored antichains,
      units_of-more slots (length m.plan.ontology.individuals + 1) is.plan.few_slots query,
    )
