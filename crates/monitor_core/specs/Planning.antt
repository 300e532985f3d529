-- What a monitor computes of its ontology and its queries before the first snapshot.
use Rattle.std.specs.Prelude.{◌≡◌, ◌≤◌, ℕ, ◌+◌, Some, List, length, slice_get, Vec}
use Rattle.std.specs.Global.{Global}
use Rattle.std.specs.List.{All, AllZip}
use Rattle.dl_syntax.specs.Ontology.{IsOntology}
use Rattle.dl_syntax.specs.declared.queries.Cq.{Cq}
use Rattle.dl_syntax.specs.Queries.{IsQuery}
use Rattle.tcq_syntax.specs.declared.nodes.Node.TheVariants as node
use Rattle.tcq_syntax.specs.Tcq.{Tcq, IsTcq}
use Rattle.tcq_syntax.specs.Within.{AreWithin}
use Rattle.perfect_ref.specs.Plain.{Encoded, encoded, IsPlain, PlainCore, Reachable, Lists, HoldsOf}
use Rattle.consistency.specs.Prepared.{Prepared, IsPreparedFor, cores_of}
use Rattle.saturate.specs.declared.sight.Sight.{Sight}
use Rattle.saturate.specs.Sight.{SeesUnion}
use Rattle.progression.specs.Tables.{leaves_of}
use Rattle.monitor_core.specs.declared.plan.Leaf.{Leaf}
use Rattle.monitor_core.specs.declared.plan.Plan.{Plan}

-- the query can be rewritten, and its head is short
pub record IsAskable (e : Encoded) (q : Cq) : Type 0 where
  pub query : IsQuery q
  pub plain : IsPlain e.roles q
  pub short : length q.head ≤ 4

-- the leaves name no hidden role
abbrev pub HasPlainLeaves : ℕ → Tcq → Type 0
HasPlainLeaves roles query = (place : ℕ) (q : Cq) → slice_get query.nodes place ≡ Some (node.Leaf q)
    → IsPlain roles q

-- the leaf asks the query: the length of its head, the core of its rewriting, and how many queries
-- it reaches
pub record IsLeafOf (e : Encoded) (q : Cq) (leaf : Leaf) : Type 0 where
  pub asks : leaf.query ≡ q
  pub arity : leaf.arity ≡ length q.head
  pub core : Lists (PlainCore e q) leaf.core.items
  pub count : HoldsOf (Reachable e q) leaf.reached

-- the leaf asks its own query, which is within the limits
pub record IsLeaf (e : Encoded) (leaf : Leaf) : Type 0 where
  pub query : IsQuery leaf.query
  pub of : IsLeafOf e leaf.query leaf

abbrev pub AreLeaves : Encoded → List Leaf → Type 0
AreLeaves e leaves = All (IsLeaf e) leaves

-- the leaf at the place asks the query
abbrev pub IsAskedAt : Encoded → List Leaf → Cq → ℕ → Type 0
IsAskedAt e leaves q place = (leaf : Leaf) × (slice_get leaves place ≡ Some leaf)
    × IsLeafOf e q leaf

-- for each leaf of the query, in order, the place of one that asks the same
abbrev pub ArePlacesOf : Encoded → List Leaf → Tcq → List ℕ → Type 0
ArePlacesOf e leaves query places = AllZip (IsAskedAt e leaves) (leaves_of query.nodes) places

-- for each query the places of its leaves
abbrev pub AreAllPlaces : Encoded → List Leaf → List Tcq → List (Vec ℕ Global) → Type 0
AreAllPlaces e leaves queries all =
    AllZip (λ query (places : Vec ℕ Global). ArePlacesOf e leaves query places.items) queries all

-- the predicates of the leaves' cores are looked at
abbrev pub SeesLeaves : Sight → List Leaf → Type 0
SeesLeaves sight leaves = All (λ leaf. SeesUnion sight leaf.core.items) leaves

-- those of the clashes' cores are
abbrev pub SeesClashes : Sight → Prepared → Type 0
SeesClashes sight clashes = All (SeesUnion sight) (cores_of clashes)

abbrev pub AreTables : List Tcq → Type 0
AreTables queries = All (λ query. IsTcq query.vars query.nodes) queries

-- the queries are within the ontology's limits, and what is computed is computed of these
pub record IsPlan (plan : Plan) : Type 0 where
  pub sound : IsOntology plan.ontology
  pub tables : AreTables plan.queries.items
  pub within : AreWithin plan.ontology plan.queries.items
  pub counted : length plan.ontology.individuals ≤ plan.slots
  pub few_slots : plan.slots ≤ length plan.ontology.individuals + 1
  pub leaves : AreLeaves (encoded plan.ontology) plan.leaves.items
  pub places : AreAllPlaces (encoded plan.ontology) plan.leaves.items plan.queries.items
      plan.places.items
  pub clashes_for : IsPreparedFor plan.clashes plan.ontology
  pub saturates : plan.saturator ≡ plan.ontology.inclusions
  pub sees_leaves : SeesLeaves plan.sight plan.leaves.items
  pub sees_clashes : SeesClashes plan.sight plan.clashes
