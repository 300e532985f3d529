-- What is kept after one more snapshot stands for the history with it.
use Rattle.std.proofs.Common.{◌≡◌, ℕ, ◌+◌, ◌-◌, ◌<◌, ◌≤◌, ◌^◌, min, Bool, true, false, List, []}
use Rattle.std.proofs.Common.{◌∷◌}
use Rattle.std.proofs.Common.{◌++◌, length, map, refl, sym, ◌∙◌, ap, subst, arith, inl, inr}
use Rattle.std.proofs.Common.{length-append, eq-eqb}
use Rattle.std.specs.Prelude.{◌↔◌, Result, Ok, Err, IfOk, Some, slice_get, slice_index_or, nat_eq}
use Rattle.std.specs.Prelude.{if◌then◌else◌}
use Rattle.std.specs.List.{All, Contains}
use Rattle.std.proofs.lemmas.Bool.{cases_lt, false≢true, eqb-true}
use Rattle.std.proofs.lemmas.Bool.Decides.{eqb_tells}
use Rattle.std.proofs.lemmas.List.{get_or_push}
use Rattle.std.proofs.lemmas.List.Elements.{All-nil, All-contains, All-weaker, Contains-get_or}
use Rattle.std.proofs.lemmas.Option.{get_or_from_slice_get, slice_get_within, slice_get-get_or}
use Rattle.dl_syntax.specs.declared.names.IndId.{IndId}
use Rattle.dl_syntax.specs.declared.facts.Fact.{Fact}
use Rattle.dl_syntax.specs.declared.ontology.Inclusion.{Inclusion}
use Rattle.dl_syntax.specs.Match.{Certain}
use Rattle.dl_syntax.specs.Rows.{IsRising, Relation}
use Rattle.list_lemmas.proofs.Elements.{All-from_contains, Contains-none, Contains-first}
use Rattle.list_lemmas.proofs.Elements.{Contains-later, Contains-cons_cases}
use Rattle.tcq_syntax.specs.declared.nodes.Node.{Node}
use Rattle.tcq_syntax.specs.declared.nodes.Node.TheVariants as node
use Rattle.tcq_syntax.specs.Tcq.{Tcq, IsTcq}
use Rattle.tcq_syntax.specs.Formula.{formula_at, formula_of, number_at, is_future, IsTable}
use Rattle.tcq_syntax.specs.Histories.{History, with_snapshot}
use Rattle.tcq_syntax.specs.Time.{Holds, part_of}
use Rattle.tcq_syntax.specs.End.{IsMinimal, Inside, EachFuture, future_set}
use Rattle.tcq_syntax.specs.Sizes.{futures}
use Rattle.tcq_syntax.specs.Answers.{IsRow, root_of}
use Rattle.tcq_syntax.specs.Kept.{IsKept, IsPrevOf}
use Rattle.tcq_syntax.specs.Laws.{IsWeakSet}
use Rattle.tcq_syntax.proofs.Trees.{children_are_below}
use Rattle.tcq_syntax.proofs.Futures.{EachFuture-formula_at, numbers_are_below}
use Rattle.antichains.specs.Sets.{holds}
use Rattle.answer_tables.specs.Tuples.{IsTuple}
use Rattle.answer_tables.specs.Table.{Antichains, at}
use Rattle.answer_tables.specs.Combining.{LinksAreIn}
use Rattle.answer_tables.specs.Substituting.{HaveShape}
use Rattle.answer_tables.proofs.Widening.{wider}
use Rattle.progression.specs.declared.kept.Kept.{Kept}
use Rattle.progression.specs.Step.{Stands, is_past, kept_place, HasNumberBelow, OwnIn, KeptStands}
use Rattle.progression.specs.Tables.{no_table, table_at, kept_table, KeptShape, HaveLeaves}
use Rattle.progression.specs.Tables.{IsOverLeaf, KeptOwn, LeavesAre, leaf_number, relation_at}
use Rattle.progression.specs.Tables.{AreTables, AreKeptOf}
use Rattle.progression.specs.Kept.{FitsNode, Fits, StandsFor, AreOverLeaves, AreCertain}
use Rattle.progression.specs.Kept.{AreLeafAnswers, AreRows, AreRootRows, Advances}
use Rattle.progression.proofs.Bounded.{minimal-from_stands, stands-from_minimal, answered}
use Rattle.progression.proofs.Tabulating.{none_is}
use Rattle.progression.proofs.Leaves.{leaf_at, any_row}

-- the first entry with a place
pub record Entry (entries : List (ℕ × Antichains)) (place : ℕ) : Type 0 where
  pub entry : ℕ × Antichains
  pub there : Contains entries entry
  pub same : entry.0 ≡ place
  pub found : kept_table entries place ≡ entry.1

entry_first : (e : ℕ × Antichains) (entries : List (ℕ × Antichains)) (place : ℕ) → e.0 ≡ place
    → nat_eq e.0 place ≡ true → Entry (e ∷ entries) place
entry_first e entries place same is = record {
  entry = e;
  there = Contains-first e entries;
  same =
      same;
  found = ap (λ (b : Bool). if b then e.1 else kept_table entries place) is;
}

entry_later : (e : ℕ × Antichains) (entries : List (ℕ × Antichains)) (place : ℕ)
    → nat_eq e.0 place ≡ false → Entry entries place → Entry (e ∷ entries) place
entry_later e entries place other later =
    record {
      entry = later.entry;
      there = Contains-later e entries later.entry later.there;
      same =
          later.same;
      found = ap (λ (b : Bool). if b then e.1 else kept_table entries place)
          other ∙ later.found;
    }

find_entry : (entries : List (ℕ × Antichains)) (place : ℕ)
    → Contains (map (λ entry. entry.0) entries) place → Entry entries place
find_entry [] place there = absurd (Contains-none place there)
find_entry (e ∷ entries) place there = elim (eqb_tells e.0 place) [
  | inl same ↦ entry_first e entries place same.1 same.0
  | inr other ↦ entry_later e entries place other.0
      (find_entry entries place (elim (Contains-cons_cases e.0 (map (λ entry. entry.0) entries)
      place there) [ inl first ↦ absurd (other.1 first) | inr later ↦ later ]))
]

-- a future node's number is below the number of future nodes
pub named : (nodes : List Node) → IsTable nodes → (place : ℕ)
    → EachFuture (HasNumberBelow (futures nodes)) (formula_at nodes place)
named nodes table place = EachFuture-formula_at (HasNumberBelow (futures nodes)) nodes table each
    place
  where
    each : (place : ℕ) (n : Node) → slice_get nodes place ≡ Some n → is_future n ≡ true
        → HasNumberBelow (futures nodes) (formula_of (formula_at nodes) (number_at nodes place) n)
    each place (node.Next f) at future = numbers_are_below nodes place (node.Next f) at refl
    each place (node.WeakNext f) at future = numbers_are_below nodes place (node.WeakNext f) at refl
    each place (node.Until f g) at future = numbers_are_below nodes place (node.Until f g) at refl
    each place (node.Eventually f) at future =
        numbers_are_below nodes place (node.Eventually f) at refl
    each place (node.Always f) at future = numbers_are_below nodes place (node.Always f) at refl
    each place _ at future = absurd (false≢true future)

Contains-at : (nodes : List Node) (place : ℕ) (n : Node) → slice_get nodes place ≡ Some n
    → Contains nodes n
Contains-at nodes place n at =
    subst (Contains nodes) (get_or_from_slice_get nodes place n n at)
    (Contains-get_or nodes place n (slice_get_within nodes place n at))

-- what a past node asks is kept
asked_is_kept : (nodes : List Node) (place : ℕ) (n : Node) → slice_get nodes place ≡ Some n
    → is_past n ≡ true → IsKept nodes (kept_place place n)
asked_is_kept nodes place (node.Prev f) at past =
    (node.Prev f, inr (Contains-at nodes place (node.Prev f) at, refl))
asked_is_kept nodes place (node.WeakPrev f) at past =
    (node.WeakPrev f, inr (Contains-at nodes place (node.WeakPrev f) at, refl))
asked_is_kept nodes place (node.Since f g) at past = (node.Since f g, inl (at, tt))
asked_is_kept nodes place (node.Once f) at past = (node.Once f, inl (at, tt))
asked_is_kept nodes place (node.Historically f) at past = (node.Historically f, inl (at, tt))
asked_is_kept nodes place _ at past = absurd (false≢true past)

-- a kept node is one of the table
prev_within : (nodes : List Node) → IsTable nodes → (k place : ℕ) (n : Node)
    → slice_get nodes k ≡ Some n → IsPrevOf place n → place < length nodes
prev_within nodes table k place (node.Prev f) at is = let below : f < k =
    table k (node.Prev f) at in omega (arith, below, is, slice_get_within nodes k (node.Prev f) at)
prev_within nodes table k place (node.WeakPrev f) at is = let below : f < k =
    table k (node.WeakPrev f) at in
    omega (arith, below, is, slice_get_within nodes k (node.WeakPrev f) at)
prev_within nodes table k place _ at is = absurd is

kept_within : (nodes : List Node) → IsTable nodes → (place : ℕ) → IsKept nodes place
    → place < length nodes
kept_within nodes table place (n, inl own) = slice_get_within nodes place n own.0
kept_within nodes table place (n, inr (there, is)) =
    prev_within nodes table there.0 place n
    (slice_get-get_or nodes there.0 n there.1 ∙ ap Some there.2) is

module _ (query : Tcq) (valid : IsTcq query.vars query.nodes) (slots : ℕ) (kept : Kept)
    (fits : Fits query slots kept) where
  abbrev nodes : List Node
  nodes = query.nodes

  abbrev entries : List (ℕ × Antichains)
  entries = kept.tables.items

  pub table : IsTable nodes
  table = (children_are_below query.vars nodes valid).0

  some_nodes : 0 < length nodes
  some_nodes = (children_are_below query.vars nodes valid).1

  pub kept_shape : KeptShape slots query.vars entries
  kept_shape = All-weaker (λ (e : ℕ × Antichains). FitsNode query slots e.0 e.1) (λ (e : ℕ
      × Antichains). (e.1.slots ≡ slots)
      × (e.1.arity ≡ query.vars)) (λ e fit. (fit.slots_are, fit.arity_is)) entries fits.tables

  asked_entry : 0 < kept.count → (place : ℕ) (n : Node) → slice_get nodes place ≡ Some n
      → is_past n ≡ true → Entry entries (kept_place place n)
  asked_entry some place n at past =
      find_entry entries (kept_place place n)
      (fits.complete some (kept_place place n) (asked_is_kept nodes place n at past))

  kept_own : (row : List IndId) → IsTuple slots query.vars row
      → KeptOwn nodes (λ place. at (kept_table entries place) row)
  kept_own row tup place n at_n past = elim (cases_lt 0 kept.count) [
    | inl some ↦
        let entry = asked_entry some place n at_n past in
        let fit : FitsNode query slots entry.entry.0 entry.entry.1 =
        All-contains (λ (e : ℕ × Antichains).
        FitsNode query slots e.0 e.1) entries entry.entry fits.tables entry.there in
        subst (λ (t : Antichains). OwnIn (future_set (formula_at nodes (kept_place place n)))
        (at t row)) (sym entry.found)
        (subst (λ (p : ℕ). OwnIn (future_set (formula_at nodes p)) (at entry.entry.1 row))
        entry.same (fit.own row tup))
    | inr empty ↦
        let none : entries ≡ [] = fits.none (omega arith) in
        subst (λ (es : List (ℕ × Antichains)).
        OwnIn (future_set (formula_at nodes (kept_place place n)))
        (at (kept_table es (kept_place place n)) row)) (sym none)
        (subst (OwnIn (future_set (formula_at nodes (kept_place place n)))) (none_is row)
        (All-nil (λ (set : ℕ). Inside set
        (future_set (formula_at nodes (kept_place place n))))))
  ]

  kept_stands : (inclusions : List Inclusion) (history : History) (row : List IndId)
      → IsTuple slots query.vars row → StandsFor inclusions slots history query kept
      → KeptStands inclusions history row nodes (λ place. at (kept_table entries place) row)
  kept_stands inclusions history row tup stands place n at_n past some =
      let counted : 0 < kept.count = omega (arith, stands.counted, some) in
      let entry = asked_entry counted place n at_n past in
      let minimal : IsMinimal inclusions history (futures nodes) (formula_at nodes entry.entry.0)
      row (at entry.entry.1 row) = All-contains (λ (e : ℕ × Antichains). (r : List IndId)
      → IsRow slots query.vars r
      → IsMinimal inclusions history (futures nodes) (formula_at nodes e.0) r (at e.1 r))
      entries entry.entry stands.minimal entry.there row tup in
      subst (λ (t : Antichains). Stands inclusions history row
      (formula_at nodes (kept_place place n)) (at t row)) (sym entry.found)
      (subst (λ (p : ℕ). Stands inclusions history row (formula_at nodes p) (at entry.entry.1 row))
      entry.same
      (stands-from_minimal inclusions history row (formula_at nodes entry.entry.0) (futures nodes)
      valid.few_futures (named nodes table entry.entry.0) (at entry.entry.1 row) minimal))

  -- there is a relation for each leaf
  pub have_leaves : (leaves : List Relation) → AreOverLeaves query leaves
      → HaveLeaves query.vars nodes leaves
  have_leaves leaves over place (node.Leaf q) at_n = let found =
      leaf_at IsOverLeaf nodes leaves over place q at_n in
      (found.0, found.1, valid.leaves place q at_n)
  have_leaves leaves over place _ at_n = tt

  leaves_are : (inclusions : List Inclusion) (history : History) (snapshot : List Fact)
      (leaves : List Relation) → AreLeafAnswers inclusions snapshot query leaves
      → (row : List IndId) → LeavesAre inclusions (with_snapshot snapshot history) row
      (length history.snapshots) nodes leaves
  leaves_are inclusions history snapshot leaves answers row place (node.Leaf q) at_n =
      let found = leaf_at (AreCertain inclusions snapshot) nodes leaves answers place q at_n in
      let part : List IndId = part_of row q.head in
      let rows : List (List IndId) = (relation_at leaves (leaf_number nodes place)).rows in
      let last : slice_index_or (history.snapshots ++ snapshot ∷ []) (length history.snapshots) []
      ≡ snapshot = get_or_push history.snapshots snapshot [] (length history.snapshots) refl in (
        λ h. subst (λ (s : List Fact). Certain inclusions q s part) (sym last)
            ((found.1 part).0 ((any_row rows part).0 h)),
        λ h. (any_row rows part).1 ((found.1 part).1
            (subst (λ (s : List Fact). Certain inclusions q s part) last h)),
      )
  leaves_are inclusions history snapshot leaves answers row place _ at_n = tt

  -- where the snapshots are counted, there is none exactly where the count says so
  first_of : (inclusions : List Inclusion) (history : History)
      → StandsFor inclusions slots history query kept → (first : Bool)
      → (first ≡ true) ↔ (kept.count ≡ 0) → (first ≡ true) ↔ (length history.snapshots ≡ 0)
  first_of inclusions history stands first is = (
    λ h. let none : kept.count ≡ 0 = is.0 h in
        omega (arith, none, stands.counted),
    λ h. is.1 (omega (arith, h, stands.counted)),
  )

  module _ (first : Bool) (first_is : (first ≡ true)
      ↔ (kept.count ≡ 0)) (leaves : List Relation) (list : List (List ℕ)) (tables : List Antichains)
      (made : AreTables nodes slots query.vars first entries leaves list (length nodes) tables)
      (new : Kept) (kept_of : AreKeptOf nodes (length nodes) tables new.tables.items)
      (counted : new.count ≡ min (kept.count + 1) (2 ^ 64 - 1)) where
    abbrev IsEntry : ℕ × Antichains → Type 0
    IsEntry e = (e.0 < length nodes) × IsKept nodes e.0 × (e.1 ≡ table_at tables e.0)

    fits_node : (e : ℕ × Antichains) → IsEntry e → FitsNode query slots e.0 e.1
    fits_node e is =
        let shape = made.shape e.0 no_table (omega (arith, is.0, made.many)) in
        record {
          kept = is.1;
          slots_are = ap (λ (t : Antichains). t.slots) is.2 ∙ shape.0;
          arity_is = ap (λ (t : Antichains). t.arity) is.2 ∙ shape.1;
          own = λ row tup. subst (λ (t : Antichains).
              OwnIn (future_set (formula_at nodes e.0)) (at t row)) (sym is.2)
              (made.own row tup (kept_own row tup) e.0 is.0);
        }

    pub Fits-next : Fits query slots new
    Fits-next = record {
      none = λ zero. absurd (omega (arith, zero, counted));
      rising = kept_of.rising;
      tables = All-weaker IsEntry (λ (e : ℕ × Antichains).
          FitsNode query slots e.0 e.1) fits_node new.tables.items kept_of.each;
      complete = λ some place is. kept_of.complete place (kept_within nodes table place is) is;
    }

    module _ (inclusions : List Inclusion) (history : History) (snapshot : List Fact)
        (stands : StandsFor inclusions slots history query kept)
        (answers : AreLeafAnswers inclusions snapshot query leaves) where
      abbrev grown : History
      grown = with_snapshot snapshot history

      long : length grown.snapshots ≡ length history.snapshots + 1
      long = length-append history.snapshots (snapshot ∷ [])

      node_stands : (row : List IndId) → IsTuple slots query.vars row → (place : ℕ)
          → place < length nodes
          → Stands inclusions grown row (formula_at nodes place) (at (table_at tables place) row)
      node_stands row tup place within =
          made.stand inclusions history snapshot row tup
          (first_of inclusions history stands first first_is)
          (kept_stands inclusions history row tup stands)
          (leaves_are inclusions history snapshot leaves answers row) place within

      StandsFor-next : StandsFor inclusions slots grown query new
      StandsFor-next = record {
        counted = omega (arith, counted, long, stands.counted);
        minimal = All-weaker IsEntry (λ (e : ℕ × Antichains). (row : List IndId)
            → IsRow slots query.vars row
            → IsMinimal inclusions grown (futures nodes) (formula_at nodes e.0) row (at e.1 row))
            (λ e is row tup.
            subst (λ (t : Antichains).
            IsMinimal inclusions grown (futures nodes) (formula_at nodes e.0) row (at t row))
            (sym is.2)
            (minimal-from_stands inclusions grown row (formula_at nodes e.0) (futures nodes)
            valid.few_futures (named nodes table e.0) (at (table_at tables e.0) row)
            (node_stands row tup e.0 is.0))) new.tables.items kept_of.each;
      }

      pub Advances-next : (below : ℕ) → below ≤ slots → (weak : ℕ) → weak < 256
          → IsWeakSet nodes weak → (rows : List (List IndId)) → IsRising rows
          → ((row : List IndId) → Contains rows row ↔ IsTuple below query.vars row
          × (holds (at (table_at tables (length nodes - 1)) row) weak ≡ true))
          → Advances inclusions (record { kept = slots; answered = below }) grown query new rows
      Advances-next below few weak small is_weak rows rising member = record {
        stands = StandsFor-next;
        answers = record {
          rising = rising;
          member = λ row. (
            λ there. let is = (member row).0 there in (is.0, (root row (inside row is.0)).0 is.1),
            λ is. (member row).1 (is.0, (root row (inside row is.0)).1 is.1),
          );
        };
      }
        where
          inside : (row : List IndId) → IsTuple below query.vars row
              → IsTuple slots query.vars row
          inside row is = wider below slots query.vars row few is

          root : (row : List IndId) → IsTuple slots query.vars row
              → (holds (at (table_at tables (length nodes - 1)) row) weak ≡ true)
              ↔ Holds inclusions grown row (root_of query) (length grown.snapshots - 1)
          root row tup = answered inclusions grown row nodes weak table is_weak small
              (omega (arith, long)) (length nodes - 1) (at (table_at tables (length nodes - 1)) row)
              (node_stands row tup (length nodes - 1) (omega (arith, some_nodes)))

-- the facts of a query's parts, where these are equal to others
module _ (query : Tcq) (valid : IsTcq query.vars query.nodes) (slots : ℕ) (kept : Kept)
    (fits : Fits query slots kept) (ns : List Node) (same_nodes : ns
    ≡ query.nodes) (k : ℕ) (same_vars : k ≡ query.vars) where
  pub table_read : IsTable ns
  table_read = subst IsTable (sym same_nodes) (table query valid slots kept fits)

  pub shape_read : (es : List (ℕ × Antichains)) → es ≡ kept.tables.items → KeptShape slots k es
  shape_read es same = subst (KeptShape slots k) (sym same)
      (subst (λ (a : ℕ). KeptShape slots a kept.tables.items) (sym same_vars)
      (kept_shape query valid slots kept fits))

  pub leaves_read : (leaves : List Relation) → AreOverLeaves query leaves → HaveLeaves k ns leaves
  leaves_read leaves over = subst (λ (a : ℕ).
      HaveLeaves a ns leaves) (sym same_vars)
      (subst (λ (xs : List Node). HaveLeaves query.vars xs leaves) (sym same_nodes)
      (have_leaves query valid slots kept fits leaves over))

  pub tables_read : (first : Bool) → first ≡ nat_eq kept.count 0 → (es : List (ℕ × Antichains))
      → es ≡ kept.tables.items
      → (leaves : List Relation) (list : List (List ℕ)) (tables : List Antichains)
      → AreTables ns slots k first es leaves list (length ns) tables
      → AreTables query.nodes slots query.vars (nat_eq kept.count 0) kept.tables.items leaves list
      (length query.nodes) tables
  tables_read first same_first es same_entries leaves list tables made =
      subst (λ (b : Bool). AreTables query.nodes slots query.vars b kept.tables.items leaves list
      (length query.nodes) tables) same_first
      (subst (λ (xs : List (ℕ × Antichains)).
      AreTables query.nodes slots query.vars first xs leaves list (length query.nodes) tables)
      same_entries
      (subst (λ (a : ℕ). AreTables query.nodes slots a first es leaves list (length query.nodes)
      tables) same_vars
      (subst (λ (xs : List Node). AreTables xs slots k first es leaves list (length xs) tables)
      same_nodes made)))

-- no snapshot was counted
pub is_first : (count : ℕ) → (nat_eq count 0 ≡ true) ↔ (count ≡ 0)
is_first count = (eqb-true count 0, eq-eqb count 0)

pub AreRows-root : (query : Tcq) (slots : ℕ) (tables : List Antichains) (relation : Relation)
    → AreRootRows query slots tables relation → AreRows query slots relation
AreRows-root query slots tables relation root = record {
  arity = root.arity;
  rows = All-from_contains (IsRow slots query.vars) relation.rows (λ row there.
      ((root.member row).0 there).0);
  rising = root.rising;
}

pub stored_next : (nodes : List Node) (slots arity : ℕ) (first : Bool) (kept : List (ℕ
    × Antichains)) (leaves : List Relation) (list : List (List ℕ)) (tables : List Antichains)
    (entries : List (ℕ × Antichains))
    → AreTables nodes slots arity first kept leaves list (length nodes) tables
    → AreKeptOf nodes (length nodes) tables entries → All (λ entry. LinksAreIn entry.1 list) entries
stored_next nodes slots arity first kept leaves list tables entries made kept_of =
    All-weaker (λ (e : ℕ × Antichains). (e.0 < length nodes) × IsKept nodes e.0
    × (e.1 ≡ table_at tables e.0)) (λ (e : ℕ × Antichains). LinksAreIn e.1 list)
    (λ e is. subst (λ (t : Antichains). LinksAreIn t list) (sym is.2)
    (made.stored e.0 no_table (omega (arith, is.0, made.many)))) entries kept_of.each

pub root_read : {E : Type 0} (query : Tcq) (slots below : ℕ) (tables : List Antichains)
    (shape : HaveShape slots query.vars tables) (root : Antichains) (weak : ℕ)
    (r : Result Relation E) → root ≡ table_at tables (length query.nodes - 1)
    → length query.nodes - 1 < length tables → weak < 256 → IsWeakSet query.nodes weak
    → IfOk r (λ rows. rows.arity ≡ root.arity) → IfOk r (λ rows. IsRising rows.rows)
    → IfOk r (λ rows. (tuple : List IndId)
    → Contains rows.rows tuple ↔ IsTuple below root.arity tuple
    × (holds (at root tuple) weak ≡ true)) → IfOk r (AreRootRows query below tables)
root_read query slots below tables shape root weak (Err e) is within small is_weak arity rising
    exact = tt
root_read query slots below tables shape root weak (Ok rows) is within small is_weak arity rising
    exact =
    record {
      weak = weak;
      small = small;
      is_weak = is_weak;
      arity = arity ∙ arity_is;
      rising = rising;
      member = λ row.
          subst (λ (t : Antichains). Contains rows.rows row ↔ IsTuple below query.vars row
          × (holds (at t row) weak ≡ true)) is
          (subst (λ (k : ℕ). Contains rows.rows row ↔ IsTuple below k row
          × (holds (at root row) weak ≡ true)) arity_is (exact row));
    }
  where
    shape_is : (root.slots ≡ slots) × (root.arity ≡ query.vars)
    shape_is = subst (λ (t : Antichains). (t.slots ≡ slots)
        × (t.arity ≡ query.vars)) (sym is) (shape (length query.nodes - 1) no_table within)

    arity_is : root.arity ≡ query.vars
    arity_is = shape_is.1

-- the query's root has a place
pub root_within : (query : Tcq) → IsTcq query.vars query.nodes → 0 < length query.nodes
root_within query valid = (children_are_below query.vars query.nodes valid).1

pub kept_of_query : (query : Tcq) → IsTcq query.vars query.nodes → (place : ℕ)
    → IsKept query.nodes place → place < length query.nodes
kept_of_query query valid place kept =
    kept_within query.nodes (children_are_below query.vars query.nodes valid).0 place kept
