use Rattle.std.proofs.Common.{◌≡◌, length}
use Rattle.saturate.specs.Above.{HasRoles}
use Rattle.saturate.proofs.tables.role_table.Given as goal

abbrev pub invariant-loop-number : goal.invariant-loop-number
invariant-loop-number l = (length l.table.items ≡ l.number)
    × HasRoles l.graph l.number l.table.items
