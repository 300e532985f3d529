-- What is kept of a query, over more slots.
use Rattle.std.specs.Prelude.{◌≡◌, ℕ, ◌+◌, ◌^◌, ◌<◌, ◌≤◌, ◌↔◌, List}
use Rattle.std.specs.List.{AllZip}
use Rattle.dl_syntax.specs.declared.names.IndId.{IndId}
use Rattle.dl_syntax.specs.declared.ontology.Inclusion.{Inclusion}
use Rattle.tcq_syntax.specs.Tcq.{Tcq}
use Rattle.tcq_syntax.specs.Histories.{History, individuals_of, with_names, HasIndividualsBelow}
use Rattle.answer_tables.specs.Tuples.{IsTuple}
use Rattle.answer_tables.specs.Table.{Antichains, HasAntichain, at}
use Rattle.answer_tables.specs.Spreading.{narrowed}
use Rattle.progression.specs.declared.kept.Kept.{Kept}
use Rattle.progression.specs.Kept.{Fits, StandsFor}

-- there is a slot, and the tuples of numbers below so many more are few
pub record CanWiden (more : ℕ) (table : Antichains) : Type 0 where
  pub some : 0 < table.slots
  pub small : table.slots + more ≤ 4294967295
  pub few : (table.slots + more) ^ table.arity ≤ 2 ^ 60

-- the table over so many slots more, in which each new one stands for what the old last one stood
-- for
pub record IsWiderTable (more : ℕ) (old new : Antichains) : Type 0 where
  pub slots : new.slots ≡ old.slots + more
  pub arity : new.arity ≡ old.arity
  pub each : (tuple : List IndId) → IsTuple (old.slots + more) old.arity tuple
      → at new tuple ≡ at old (narrowed old.slots tuple)

-- the table of the same node
abbrev pub IsWiderEntry : ℕ → ℕ × Antichains → ℕ × Antichains → Type 0
IsWiderEntry more old new = (new.0 ≡ old.0) × IsWiderTable more old.1 new.1

-- the tables are of the same nodes, and have the same antichains
abbrev pub HasSameAntichains : ℕ × Antichains → ℕ × Antichains → Type 0
HasSameAntichains old new = (new.0 ≡ old.0)
    × ((antichain : List ℕ) → HasAntichain new.1 antichain ↔ HasAntichain old.1 antichain)

-- what is kept of the query over so many slots more. If the last old slot was the stranger of a
-- history, it stands for that history with further names
pub record Widens (query : Tcq) (slots more : ℕ) (old new : Kept) : Type 0 where
  pub fits : Fits query (slots + more) new
  pub counted : new.count ≡ old.count
  pub same : AllZip HasSameAntichains old.tables.items new.tables.items
  pub stands : (inclusions : List Inclusion) (count : ℕ) (history : History)
      (names : List (List ℕ)) → slots ≡ individuals_of count history + 1 →
      HasIndividualsBelow (individuals_of count history) history →
      StandsFor inclusions slots history query old →
      StandsFor inclusions (slots + more) (with_names names history) query new
