-- Laws of tables.
use Rattle.std.specs.Prelude.{ℕ, ◌^◌, ◌≤◌, List, All, length}
use Rattle.formula_store.specs.Interned.{AreDistinct}
use Rattle.answer_tables.specs.Table.{Antichains, HasAntichain}

-- distinct antichains of a table's tuples are at most as many as the tuples
abbrev pub FewAntichains : Type 0
FewAntichains = (table : Antichains) (antichains : List (List ℕ)) → AreDistinct antichains
    → All (HasAntichain table) antichains → length antichains ≤ table.slots ^ table.arity
