-- One step of a query, with a table for each node in place of a antichain.
use Rattle.std.specs.Prelude.{◌≡◌, ◌⊎◌, ℕ, ◌<◌, ◌↔◌, nat_eq, if◌then◌else◌, Bool, true, false, None}
use Rattle.std.specs.Prelude.{Some, List, [], ◌∷◌, ◌++◌, length, map, take, slice_get}
use Rattle.std.specs.Prelude.{slice_index_or}
use Rattle.std.specs.List.{All, AllPairs, Contains, count_by, list_any}
use Rattle.dl_syntax.specs.declared.names.IndId.{IndId}
use Rattle.dl_syntax.specs.declared.facts.Fact.{Fact}
use Rattle.dl_syntax.specs.declared.ontology.Inclusion.{Inclusion}
use Rattle.dl_syntax.specs.declared.queries.Cq.{Cq}
use Rattle.dl_syntax.specs.declared.queries.Term.{Term}
use Rattle.dl_syntax.specs.declared.queries.Term.TheVariants.{Var, Ind}
use Rattle.dl_syntax.specs.Rows.{Relation, IsRising}
use Rattle.tcq_syntax.specs.declared.nodes.Node.{Node}
use Rattle.tcq_syntax.specs.declared.nodes.Node.TheVariants as node
use Rattle.tcq_syntax.specs.Tcq.{IsLeaf}
use Rattle.tcq_syntax.specs.Formula.{is_future, formula_at}
use Rattle.tcq_syntax.specs.Histories.{History, with_snapshot}
use Rattle.tcq_syntax.specs.Time.{part_of}
use Rattle.tcq_syntax.specs.End.{future_set}
use Rattle.tcq_syntax.specs.Kept.{IsKept}
use Rattle.tcq_syntax.specs.Laws.{granted_place}
use Rattle.antichains.specs.Sets.{holds}
use Rattle.antichains.specs.Antichain.{IsAntichain, IsMinimal, values_at}
use Rattle.answer_tables.specs.Tuples.{IsTuple}
use Rattle.answer_tables.specs.Table.{Antichains, at, same_tuple}
use Rattle.answer_tables.specs.Combining.{LinksAreIn}
use Rattle.answer_tables.specs.Substituting.{HaveShape, antichains_at}
use Rattle.progression.specs.Step.{kept_place, node_test, is_past, AllStand, KeptStands, LeafIs}
use Rattle.progression.specs.Step.{OwnIn, AllOwn}

-- the table that stands where there is none: it holds nowhere
abbrev pub no_table : Antichains
no_table = record { slots = 0; arity = 0; default = None; exceptions = [] }

abbrev pub table_at : List Antichains → ℕ → Antichains
table_at tables place = slice_index_or tables place no_table

-- the table kept for a place
abbrev pub kept_table : List (ℕ × Antichains) → ℕ → Antichains
kept_table [] place = no_table
kept_table (entry ∷ kept) place = (if nat_eq entry.0 place then entry.1 else kept_table kept place)

-- the table has, at each tuple, the minimal sets of the tuple's test, and its antichains are in the
-- list
pub record Tabulates (slots arity : ℕ) (test : List IndId → ℕ
    → Bool) (list : List (List ℕ)) (table : Antichains) : Type 0 where
  pub slots_are : table.slots ≡ slots
  pub arity_is : table.arity ≡ arity
  pub each : (tuple : List IndId) → IsTuple slots arity tuple
      → IsMinimal (test tuple) (at table tuple)
  pub stored : LinksAreIn table list

-- the table's antichains are antichains, and are in the list
pub record IsOwn (table : Antichains) (list : List (List ℕ)) : Type 0 where
  pub each : (tuple : List IndId) → IsTuple table.slots table.arity tuple
      → IsAntichain (at table tuple)
  pub stored : LinksAreIn table list

-- the kept tables have one shape
abbrev pub KeptShape : ℕ → ℕ → List (ℕ × Antichains) → Type 0
KeptShape slots arity kept = All (λ entry. (entry.1.slots ≡ slots) × (entry.1.arity ≡ arity)) kept

-- the number of an answer variable
abbrev pub variable_of : Term → ℕ
variable_of (Var v) = v
variable_of (Ind i) = 0

-- whether the tuple's part on the answer variables of the leaf is one of the rows
abbrev pub has_part : List (List IndId) → Cq → List IndId → Bool
has_part rows q tuple = list_any (same_tuple (part_of tuple q.head)) rows

-- the leaves of a table in order
abbrev pub leaves_of : List Node → List Cq
leaves_of [] = []
leaves_of (node.Leaf q ∷ nodes) = q ∷ leaves_of nodes
leaves_of (_ ∷ nodes) = leaves_of nodes

abbrev pub is_leaf : Node → Bool
is_leaf (node.Leaf q) = true
is_leaf _ = false

-- how many leaves stand before the place, which is the number of a leaf there
abbrev pub leaf_number : List Node → ℕ → ℕ
leaf_number nodes place = count_by is_leaf (take place nodes)

abbrev pub relation_at : List Relation → ℕ → Relation
relation_at relations number = slice_index_or relations number (record { arity = 0; rows = [] })

-- whether the tuple answers the node's leaf, which has this number among the leaves, if the node is
-- one
abbrev pub leaf_test : List Relation → ℕ → Node → List IndId → Bool
leaf_test relations number (node.Leaf q) tuple =
    has_part (relation_at relations number).rows q tuple
leaf_test relations number _ tuple = false

-- the rows have the length of the leaf's answer variables, and rise
pub record IsOverLeaf (q : Cq) (relation : Relation) : Type 0 where
  pub arity : relation.arity ≡ length q.head
  pub long : All (λ row. length row ≡ relation.arity) relation.rows
  pub rising : IsRising relation.rows

-- if the node is a leaf, it is one over the answer variables, and there is a relation with its
-- number over it
abbrev pub HasLeaf : ℕ → List Relation → ℕ → Node → Type 0
HasLeaf vars relations number (node.Leaf q) =
    (number < length relations) × IsOverLeaf q (relation_at relations number) × IsLeaf vars q
HasLeaf vars relations number _ = Unit {0}

-- there is a relation for each leaf
abbrev pub HaveLeaves : ℕ → List Node → List Relation → Type 0
HaveLeaves vars nodes relations = (place : ℕ) (n : Node) → slice_get nodes place ≡ Some n
    → HasLeaf vars relations (leaf_number nodes place) n

-- what the kept table that a node asks says at a tuple, where each future node has this value
abbrev pub before_test : List (ℕ × Antichains) → ℕ → List Antichains → Node → List IndId → ℕ → Bool
before_test kept place values n tuple v =
    holds (at (kept_table kept (kept_place place n)) tuple)
    (values_at (antichains_at values tuple) v)

-- whether the node at the place holds of a tuple under a set, by the tables before it
abbrev pub step_test : Bool → List (ℕ × Antichains) → List Relation → ℕ → ℕ → List Antichains
    → List Antichains → Node → List IndId → ℕ → Bool
step_test first kept relations leaf place tables values n tuple v =
    node_test first (length values) (λ c. at (table_at tables c) tuple)
    (before_test kept place values n tuple) (leaf_test relations leaf n tuple) n v

-- the values after one more node with this table: a future node adds the table of what is granted
-- with it
abbrev pub values_after : List Antichains → List Antichains → Node → Antichains → List Antichains
values_after tables values n table =
    (if is_future n then values ++ table_at (tables ++ table ∷ []) (granted_place (length tables) n)
    ∷ [] else values)

-- the answer at each leaf is whether the row answers it at the position
abbrev pub LeavesAre : List Inclusion → History → List IndId → ℕ → List Node → List Relation
    → Type 0
LeavesAre inclusions history row i nodes leaves = (place : ℕ) (n : Node)
    → slice_get nodes place ≡ Some n
    → LeafIs inclusions history row i (leaf_test leaves (leaf_number nodes place) n row) n

-- at each place that a past node asks, the kept sets have only future nodes of the node's own part
-- of the formula
abbrev pub KeptOwn : List Node → (ℕ → List ℕ) → Type 0
KeptOwn nodes old = (place : ℕ) (n : Node) → slice_get nodes place ≡ Some n → is_past n ≡ true
    → OwnIn (future_set (formula_at nodes (kept_place place n))) (old (kept_place place n))

-- tables of the first so many nodes after one more snapshot
pub record AreTables (nodes : List Node) (slots arity : ℕ) (first : Bool) (kept : List (ℕ
    × Antichains)) (leaves : List Relation) (list : List (List ℕ)) (count : ℕ)
    (tables : List Antichains) : Type 0 where
  pub many : length tables ≡ count
  pub shape : HaveShape slots arity tables
  pub stored : All (λ table. LinksAreIn table list) tables
  -- where the kept tables stand for a history, these stand for it with the snapshot
  pub stand : (inclusions : List Inclusion) (history : History) (snapshot : List Fact)
      (row : List IndId) → IsTuple slots arity row → (first ≡ true) ↔ (length history.snapshots ≡ 0)
      →
      KeptStands inclusions history row nodes (λ place. at (kept_table kept place) row)
      → LeavesAre inclusions (with_snapshot snapshot history) row (length history.snapshots)
      nodes leaves →
      AllStand inclusions (with_snapshot snapshot history) row nodes count (λ place.
      at (table_at tables place) row)
  -- and their sets are their own, as the kept ones are
  pub own : (row : List IndId) → IsTuple slots arity row
      → KeptOwn nodes (λ place. at (kept_table kept place) row)
      → AllOwn nodes count (λ place. at (table_at tables place) row)

-- the tables of the kept nodes among the first so many, with their places, in rising order
pub record AreKeptOf (nodes : List Node) (count : ℕ) (tables : List Antichains) (entries : List (ℕ
    × Antichains)) : Type 0 where
  pub rising : AllPairs (λ entry later. entry.0 < later.0) entries
  pub each : All (λ entry. (entry.0 < count) × IsKept nodes entry.0
      × (entry.1 ≡ table_at tables entry.0)) entries
  pub complete : (place : ℕ) → place < count → IsKept nodes place
      → Contains (map (λ entry. entry.0) entries) place

-- a kept node's table goes last, and another's nowhere
abbrev pub WithNode : List Node → ℕ → Antichains → List (ℕ × Antichains) → List (ℕ × Antichains)
    → Type 0
WithNode nodes place table old new = (IsKept nodes place × (new ≡ old ++ (place, table) ∷ []))
    ⊎ ((¬ IsKept nodes place) × (new ≡ old))
