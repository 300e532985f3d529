-- The rows of declared individuals with a match in facts.
use Rattle.std.specs.Prelude.{◌≡◌, ℕ, ◌<◌, ◌↔◌, List, [], ◌∷◌, length}
use Rattle.std.specs.List.{All, AllZip, Contains}
use Rattle.std.specs.Prelude.{Vec}
use Rattle.std.specs.Global.{Global}
use Rattle.dl_syntax.specs.declared.names.IndId.{IndId}
use Rattle.dl_syntax.specs.declared.facts.Fact.{Fact}
use Rattle.dl_syntax.specs.declared.queries.Cq.{Cq}
use Rattle.dl_syntax.specs.Rows.{Relation, IsRising}
use Rattle.tcq_syntax.specs.Tcq.{Tcq}
use Rattle.tcq_syntax.specs.declared.nodes.Node.{Node}
use Rattle.tcq_syntax.specs.declared.nodes.Node.TheVariants as node
use Rattle.ucq_join.specs.Answers.{IsAnswer}

-- the individual is one of so many declared ones
abbrev pub IsDeclared : ℕ → IndId → Type 0
IsDeclared count i = i.0 < count

-- the conjunctive queries of a table's leaves, in order
abbrev pub leaf_queries : List Node → List Cq
leaf_queries [] = []
leaf_queries (node.Leaf q ∷ nodes) = q ∷ leaf_queries nodes
leaf_queries (_ ∷ nodes) = leaf_queries nodes

-- exactly the rows of declared individuals with a match in the facts, in rising order
pub record AreRowsOf (facts : List Fact) (count : ℕ) (q : Cq) (rows : Relation) : Type 0 where
  pub wide : rows.arity ≡ length q.head
  pub rising : IsRising rows.rows
  pub member : (row : List IndId) → Contains rows.rows row
      ↔ (IsAnswer facts q row × All (IsDeclared count) row)

-- those of each leaf of the query
abbrev pub AreRowsOfQuery : List Fact → ℕ → Tcq → List Relation → Type 0
AreRowsOfQuery facts count query rows =
    AllZip (AreRowsOf facts count) (leaf_queries query.nodes) rows

-- those of each query
abbrev pub AreRowsOfQueries : List Fact → ℕ → List Tcq → List (Vec Relation Global) → Type 0
AreRowsOfQueries facts count queries rows =
    AllZip (λ query (each : Vec Relation Global). AreRowsOfQuery facts count query each.items)
    queries rows
