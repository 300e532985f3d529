use Rattle.std.proofs.Common.{take}
use Rattle.std.specs.List.{AllZip}
use Rattle.progression.specs.Widening.{IsWiderEntry}
use Rattle.progression.proofs.widening.wider_tables.Given as goal

abbrev pub invariant-loop-entry : goal.invariant-loop-entry
invariant-loop-entry l =
    AllZip (IsWiderEntry l.more) (take l.entry-index l.tables) l.wider.items
