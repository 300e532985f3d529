-- Tuples with numbers below a bound, listed in the order of their own numbers.
use Rattle.std.specs.Prelude.{◌≡◌, ℕ, ◌<◌, ◌≤◌, ◌⊎◌, ◌↔◌, List}
use Rattle.std.specs.List.{All, Contains}
use Rattle.dl_syntax.specs.declared.names.IndId.{IndId}
use Rattle.dl_syntax.specs.Rows.{Relation, IsRising}
use Rattle.answer_tables.specs.Tuples.{IsTuple, number}

-- each individual of the tuple is below the bound
abbrev pub IsBelow : ℕ → List IndId → Type 0
IsBelow bound tuple = All (λ i. i.0 < bound) tuple

-- rising tuples of individuals below the bound, whose numbers are below one
pub record IsListed (slots bound : ℕ) (rows : Relation) (end : ℕ) : Type 0 where
  pub rising : IsRising rows.rows
  pub tuples : (tuple : List IndId) → Contains rows.rows tuple
      → IsTuple slots rows.arity tuple × (number slots tuple < end)
  pub bounded : (tuple : List IndId) → Contains rows.rows tuple → IsBelow bound tuple

-- the rows after those with the numbers from a start up to an end whose individuals are below the
-- bound
pub record Listed (slots bound : ℕ) (old : Relation) (start end : ℕ) (new : Relation) : Type 0 where
  pub arity : new.arity ≡ old.arity
  pub listed : IsListed slots bound new end
  pub exact : (tuple : List IndId) → IsTuple slots old.arity tuple → IsBelow bound tuple
      → Contains new.rows tuple ↔ (Contains old.rows tuple ⊎ (start ≤ number slots tuple)
      × (number slots tuple < end))
