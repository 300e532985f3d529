-- What is asked of the facts that follow from a snapshot.
use Rattle.std.specs.Prelude.{◌≡◌, ◌↔◌, ℕ, Some, List, length, slice_get}
use Rattle.std.specs.List.{All, AllZip, Contains}
use Rattle.dl_syntax.specs.declared.names.IndId.{IndId}
use Rattle.dl_syntax.specs.declared.facts.Fact.{Fact}
use Rattle.dl_syntax.specs.Queries.{IsQuery}
use Rattle.dl_syntax.specs.Rows.{IsRising, Relation}
use Rattle.ucq_join.specs.Answers.{IsUnionAnswer}
use Rattle.monitor_core.specs.declared.plan.Leaf.{Leaf}

-- the members are queries whose heads have the leaf's length
pub record AsksWell (leaf : Leaf) : Type 0 where
  pub queries : All IsQuery leaf.core.items
  pub heads : All (λ q. length q.head ≡ leaf.arity) leaf.core.items

-- the relation has exactly the rows that some member has a match for in the facts, in rising order
pub record AreUnionAnswers (facts : List Fact) (leaf : Leaf) (relation : Relation) : Type 0 where
  pub arity : relation.arity ≡ leaf.arity
  pub rising : IsRising relation.rows
  pub rows : (row : List IndId) → Contains relation.rows row
      ↔ IsUnionAnswer facts leaf.core.items row

-- the relation is the one at the place
abbrev pub StandsAt : List Relation → ℕ → Relation → Type 0
StandsAt relations place relation = slice_get relations place ≡ Some relation

-- the relations are the answers of the leaves in some facts
abbrev pub AreLeafRelations : List Leaf → List Relation → Type 0
AreLeafRelations leaves relations = (facts : List Fact)
    × AllZip (AreUnionAnswers facts) leaves relations
