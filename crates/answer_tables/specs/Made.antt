-- What operations gave for tables and rows.
use Rattle.std.specs.Prelude.{◌≡◌, ℕ, Bool, List, [], ◌∷◌}
use Rattle.std.specs.List.{Contains}
use Rattle.dl_syntax.specs.declared.names.IndId.{IndId}
use Rattle.dl_syntax.specs.Rows.{Relation}
use Rattle.answer_tables.specs.Tuples.{IsTuple}
use Rattle.answer_tables.specs.Table.{Antichains, at}
use Rattle.answer_tables.specs.Combining.{Combines}
use Rattle.answer_tables.specs.Substituting.{Substitutes}
use Rattle.answer_tables.specs.Marks.{part_on}

-- the table has the shape of the first, and its antichains are the combinations of both tables'
pub record IsCombination (test : Bool → Bool → Bool) (a b table : Antichains) : Type 0 where
  pub slots : table.slots ≡ a.slots
  pub arity : table.arity ≡ a.arity
  pub each : (tuple : List IndId) → IsTuple a.slots a.arity tuple
      → Combines test (at a tuple) (at b tuple) (at table tuple)

-- the table has the shape of the other, and its antichains are the other's with each node replaced
-- by its value
pub record IsSubstitution (old : Antichains) (values : List Antichains) (table : Antichains) : Type
    0 where
  pub slots : table.slots ≡ old.slots
  pub arity : table.arity ≡ old.arity
  pub each : (tuple : List IndId) → IsTuple old.slots old.arity tuple
      → Substitutes old values tuple (at table tuple)

-- the table is true exactly at the tuples whose part on the places is one of the rows
pub record IsMarking (slots arity : ℕ) (places : List ℕ) (rows : Relation)
    (table : Antichains) : Type 0 where
  pub slots_are : table.slots ≡ slots
  pub arity_is : table.arity ≡ arity
  pub held : (tuple : List IndId) → IsTuple slots arity tuple
      → Contains rows.rows (part_on places tuple) → at table tuple ≡ 0 ∷ []
  pub others : (tuple : List IndId) → IsTuple slots arity tuple
      → ¬ Contains rows.rows (part_on places tuple) → at table tuple ≡ []
