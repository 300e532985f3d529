-- How many queries the leaves and the clashes of a monitor reach by rewriting.
use Rattle.std.specs.Prelude.{◌≡◌, ℕ, Some, List, [], ◌∷◌, ◌++◌, slice_get}
use Rattle.std.specs.List.{AllZip}
use Rattle.dl_syntax.specs.Ontology.{Declared}
use Rattle.dl_syntax.specs.declared.queries.Cq.{Cq}
use Rattle.tcq_syntax.specs.Tcq.{Tcq}
use Rattle.perfect_ref.specs.Plain.{Encoded, encoded}
use Rattle.perfect_ref.specs.Counting.{ReachAll, ReachMore}
use Rattle.consistency.specs.Asking.{queries_of}
use Rattle.progression.specs.Tables.{leaves_of}
use Rattle.monitor_core.specs.declared.plan.Leaf.{Leaf}
use Rattle.monitor_core.specs.Planning.{IsAskedAt}

-- the leaves of all queries in order
abbrev pub all_leaves : List Tcq → List Cq
all_leaves [] = []
all_leaves (query ∷ queries) = leaves_of query.nodes ++ all_leaves queries

-- the leaves, and the clashes' queries
abbrev pub starts : Declared → List Tcq → List Cq
starts ontology queries = all_leaves queries ++ queries_of ontology.clashes

-- the leaf at the place asks the query
abbrev pub AsksSame : List Leaf → Cq → ℕ → Type 0
AsksSame leaves q place = (leaf : Leaf) × (slice_get leaves place ≡ Some leaf) × (leaf.query ≡ q)

-- each leaf keeps its place
abbrev pub KeepsLeaves : List Leaf → List Leaf → Type 0
KeepsLeaves old new = (place : ℕ) (leaf : Leaf) → slice_get old place ≡ Some leaf
    → slice_get new place ≡ Some leaf

-- the leaves at these places ask the queries, which reach so many in all
pub record Gathers (e : Encoded) (queries : List Cq) (leaves : List Leaf) (places : List ℕ)
    (reached : ℕ) : Type 0 where
  pub each : AllZip (IsAskedAt e leaves) queries places
  pub all : ReachAll e queries reached

-- there are more than so many rewritings of what is watched
abbrev pub HasMoreRewritings : Declared → List Tcq → ℕ → Type 0
HasMoreRewritings ontology queries room =
    ReachMore (encoded ontology) (starts ontology queries) room
