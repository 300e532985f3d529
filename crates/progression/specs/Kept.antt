-- What is kept of a query between snapshots, and for which history it stands.
use Rattle.std.specs.Prelude.{◌≡◌, ℕ, ◌-◌, ◌<◌, ◌^◌, ◌↔◌, min, List, [], length, map}
use Rattle.std.specs.Prelude.{slice_index_or, true}
use Rattle.std.specs.List.{All, AllPairs, AllZip, Contains}
use Rattle.dl_syntax.specs.declared.names.IndId.{IndId}
use Rattle.dl_syntax.specs.declared.facts.Fact.{Fact}
use Rattle.dl_syntax.specs.declared.ontology.Inclusion.{Inclusion}
use Rattle.dl_syntax.specs.declared.queries.Cq.{Cq}
use Rattle.dl_syntax.specs.Rows.{IsRising, Relation}
use Rattle.dl_syntax.specs.Match.{Certain}
use Rattle.tcq_syntax.specs.declared.nodes.Node.{Node}
use Rattle.tcq_syntax.specs.Tcq.{Tcq}
use Rattle.tcq_syntax.specs.Formula.{formula_at}
use Rattle.tcq_syntax.specs.Histories.{History}
use Rattle.tcq_syntax.specs.Time.{Holds}
use Rattle.tcq_syntax.specs.End.{IsMinimal, Inside, future_set}
use Rattle.tcq_syntax.specs.Sizes.{futures}
use Rattle.tcq_syntax.specs.Answers.{IsRow, root_of}
use Rattle.tcq_syntax.specs.Kept.{IsKept}
use Rattle.tcq_syntax.specs.Laws.{IsWeakSet}
use Rattle.antichains.specs.Sets.{holds}
use Rattle.answer_tables.specs.Tuples.{IsTuple}
use Rattle.answer_tables.specs.Table.{Antichains, at}
use Rattle.progression.specs.declared.kept.Kept.{Kept}
use Rattle.progression.specs.declared.kept.Slots.{Slots}
use Rattle.progression.specs.Tables.{leaves_of, IsOverLeaf, table_at}

-- a table for a kept node: it is over the query's tuples of numbers below the slots, and its sets
-- have only future nodes of the node's own part of the formula
pub record FitsNode (query : Tcq) (slots place : ℕ) (table : Antichains) : Type 0 where
  pub kept : IsKept query.nodes place
  pub slots_are : table.slots ≡ slots
  pub arity_is : table.arity ≡ query.vars
  pub own : (row : List IndId) → IsRow slots query.vars row
      → All (λ set. Inside set (future_set (formula_at query.nodes place))) (at table row)

-- there is an entry for each kept node
abbrev pub AreComplete : List Node → List (ℕ × Antichains) → Type 0
AreComplete nodes entries = (place : ℕ) → IsKept nodes place
    → Contains (map (λ entry. entry.0) entries) place

-- before the first snapshot there is no table, and then there is one for each kept node, in rising
-- order
pub record Fits (query : Tcq) (slots : ℕ) (kept : Kept) : Type 0 where
  pub none : kept.count ≡ 0 → kept.tables.items ≡ []
  pub rising : AllPairs (λ entry later. entry.0 < later.0) kept.tables.items
  pub tables : All (λ entry. FitsNode query slots entry.0 entry.1) kept.tables.items
  pub complete : 0 < kept.count → AreComplete query.nodes kept.tables.items

-- how many snapshots came, as far as is counted
abbrev pub count_of : History → ℕ
count_of history = min (length history.snapshots) (2 ^ 64 - 1)

-- the snapshots are counted, and each table has, at each row of numbers below the slots, the
-- minimal sets of its node
pub record StandsFor (inclusions : List Inclusion) (slots : ℕ) (history : History) (query : Tcq)
    (kept : Kept) : Type 0 where
  pub counted : kept.count ≡ count_of history
  pub minimal : All (λ entry. (row : List IndId) → IsRow slots query.vars row
      → IsMinimal inclusions history (futures query.nodes) (formula_at query.nodes entry.0) row
      (at entry.1 row)) kept.tables.items

-- for each leaf, in order, a relation over its answer variables
abbrev pub AreOverLeaves : Tcq → List Relation → Type 0
AreOverLeaves query leaves = AllZip IsOverLeaf (leaves_of query.nodes) leaves

-- the rows are the certain answers at the snapshot
abbrev pub AreCertain : List Inclusion → List Fact → Cq → Relation → Type 0
AreCertain inclusions snapshot q relation = (row : List IndId)
    → Contains relation.rows row ↔ Certain inclusions q snapshot row

abbrev pub AreLeafAnswers : List Inclusion → List Fact → Tcq → List Relation → Type 0
AreLeafAnswers inclusions snapshot query leaves =
    AllZip (AreCertain inclusions snapshot) (leaves_of query.nodes) leaves

-- rows of as many numbers below the slots as the query has answer variables, in rising order
pub record AreRows (query : Tcq) (slots : ℕ) (relation : Relation) : Type 0 where
  pub arity : relation.arity ≡ query.vars
  pub rows : All (IsRow slots query.vars) relation.rows
  pub rising : IsRising relation.rows

-- the rows of numbers below the slots for which the root holds at the last position, in rising
-- order
pub record AreSlotAnswers (inclusions : List Inclusion) (slots : ℕ) (query : Tcq)
    (history : History) (rows : List (List IndId)) : Type 0 where
  pub rising : IsRising rows
  pub member : (row : List IndId) → Contains rows row ↔ IsRow slots query.vars row
      × Holds inclusions history row (root_of query) (length history.snapshots - 1)

-- what is kept after one more snapshot, and the rows, if what was kept stood for a history and the
-- leaves' relations are their answers at the snapshot
pub record Advances (inclusions : List Inclusion) (slots : Slots) (history : History) (query : Tcq)
    (kept : Kept) (rows : List (List IndId)) : Type 0 where
  pub stands : StandsFor inclusions slots.kept history query kept
  pub answers : AreSlotAnswers inclusions slots.answered query history rows

-- the rows of numbers below the slots at which the table of the root holds of the weak nodes, in
-- rising order
pub record AreRootRows (query : Tcq) (slots : ℕ) (tables : List Antichains)
    (relation : Relation) : Type 0 where
  pub weak : ℕ
  pub small : weak < 256
  pub is_weak : IsWeakSet query.nodes weak
  pub arity : relation.arity ≡ query.vars
  pub rising : IsRising relation.rows
  pub member : (row : List IndId) → Contains relation.rows row ↔ IsTuple slots query.vars row
      × (holds (at (table_at tables (length query.nodes - 1)) row) weak ≡ true)

-- the set at each place below the count is that of the future nodes of the node's part of the
-- formula
abbrev pub AreFutureSets : List Node → ℕ → List ℕ → Type 0
AreFutureSets nodes count sets = (place : ℕ) → place < count
    → slice_index_or sets place 0 ≡ future_set (formula_at nodes place)

-- each set of each tuple's antichain lies inside
abbrev pub HasSetsWithin : ℕ → Antichains → Type 0
HasSetsWithin own table = (tuple : List IndId) → IsTuple table.slots table.arity tuple
    → All (λ set. Inside set own) (at table tuple)
