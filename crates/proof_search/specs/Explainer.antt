-- What is kept for the proofs of many snapshots' answers and contradictions.
use Rattle.std.specs.Prelude.{◌≤◌, ◌↔◌, ◌⊎◌, ◌^◌, ℕ, List, Option, Some, None, Vec, length}
use Rattle.std.specs.Prelude.{zero, suc, slice_get}
use Rattle.std.specs.Global.{Global}
use Rattle.std.specs.List.{All, AllZip, Contains}
use Rattle.dl_syntax.specs.declared.names.IndId.{IndId}
use Rattle.dl_syntax.specs.declared.facts.Fact.{Fact}
use Rattle.dl_syntax.specs.declared.ontology.Clash.{Clash}
use Rattle.dl_syntax.specs.declared.queries.Cq.{Cq}
use Rattle.dl_syntax.specs.Ontology.{Declared}
use Rattle.dl_syntax.specs.Rows.{IsRising}
use Rattle.tcq_syntax.specs.declared.nodes.Node.{Node}
use Rattle.tcq_syntax.specs.declared.nodes.Node.TheVariants as node
use Rattle.tcq_syntax.specs.Tcq.{Tcq, IsTcq}
use Rattle.tcq_syntax.specs.Within.{AreWithin}
use Rattle.perfect_ref.specs.Plain.{encoded}
use Rattle.perfect_ref.specs.Counting.{ReachMore}
use Rattle.consistency.specs.Asking.{query_of, queries_of}
use Rattle.consistency.specs.Prepared.{Prepared, IsPreparedFor}
use Rattle.run_proofs.specs.declared.proof.Goal.TheVariants as goal
use Rattle.run_proofs.specs.Shows.{leaf_of_node, leaf_at, Holds}
use Rattle.proof_search.specs.declared.answer.Search.{Search}
use Rattle.proof_search.specs.Goals.{ReachesMore}
use Rattle.proof_search.specs.Search.{IsRewriting}

-- the search has all that the query reaches, for which there is room
pub record IsSearchFor (o : Declared) (room : ℕ) (q : Cq) (search : Search) : Type 0 where
  pub rewriting : IsRewriting o q search.reached
  pub few : length search.reached.found.keys ≤ room

-- where the node is a leaf it has a search
abbrev pub IsSearchOf : Declared → ℕ → Node → Option Search → Type 0
IsSearchOf o room (node.Leaf q) (Some search) = IsSearchFor o room q search
IsSearchOf o room (node.Leaf q) None = ⊥
IsSearchOf o room _ search = Unit {0}

-- for each node of the query
abbrev pub AreSearchesOf : Declared → ℕ → Tcq → Vec (Option Search) Global → Type 0
AreSearchesOf o room query searches = AllZip (IsSearchOf o room) query.nodes searches.items

-- the search is that of the clash's query
abbrev pub IsSearchOfClash : Declared → ℕ → Clash → Search → Type 0
IsSearchOfClash o room m search = IsSearchFor o room (query_of m) search

-- each query is a table of nodes
abbrev pub AreTables : List Tcq → Type 0
AreTables queries = All (λ query. IsTcq query.vars query.nodes) queries

-- an ontology and queries, and how many queries each leaf and each clash may reach
pub record Explained : Type 0 where
  pub ontology : Declared
  pub queries : List Tcq
  pub room : ℕ

-- the queries are within the ontology's limits, its clashes are prepared, and there is a search for
-- each leaf at its place, and one for each clash
pub record IsExplained (e : Explained) (clashes : Prepared)
    (leaves : List (Vec (Option Search) Global)) (meetings : List Search) : Type 0 where
  pub within : AreWithin e.ontology e.queries
  pub tables : AreTables e.queries
  pub small : e.room ≤ 2 ^ 30
  pub prepared : IsPreparedFor clashes e.ontology
  pub leaf_searches : AllZip (AreSearchesOf e.ontology e.room) e.queries leaves
  pub clash_searches : AllZip (IsSearchOfClash e.ontology e.room) e.ontology.clashes meetings

-- the rows are the answers of the leaf at the place in the query of the number, in rising order;
-- there are none where there is no such leaf
pub record AreLeafRows (o : Declared) (queries : List Tcq) (facts : List Fact) (query leaf : ℕ)
    (rows : List (List IndId)) : Type 0 where
  pub rising : IsRising rows
  pub member : (row : List IndId)
      → Contains rows row ↔ Holds o queries facts (goal.Answer query leaf row)

-- the element of the number, counted from 1
abbrev pub counted_from_one : {X : Type 0} → List X → ℕ → Option X
counted_from_one xs zero = None
counted_from_one xs (suc place) = slice_get xs place

-- some leaf of the query reaches more queries than there is room for
abbrev pub SomeNodeReachesMore : Declared → Tcq → ℕ → Type 0
SomeNodeReachesMore o query room =
    (leaf : ℕ) × ReachesMore o (leaf_of_node (slice_get query.nodes leaf)) room

-- some leaf of the queries does
abbrev pub SomeLeafReachesMore : Declared → List Tcq → ℕ → Type 0
SomeLeafReachesMore o queries room =
    (query leaf : ℕ) × ReachesMore o (leaf_at queries query leaf) room

-- some clash's query does
abbrev pub SomeClashReachesMore : Declared → ℕ → Type 0
SomeClashReachesMore o room =
    (m : Clash) × Contains o.clashes m × ReachesMore o (Some (query_of m)) room

-- some leaf or clash does, or the clashes do together
abbrev pub ReachTooMany : Declared → List Tcq → ℕ → Type 0
ReachTooMany o queries room =
    SomeLeafReachesMore o queries room ⊎ SomeClashReachesMore o room
    ⊎ ReachMore (encoded o) (queries_of o.clashes) room
