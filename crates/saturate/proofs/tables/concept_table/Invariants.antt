use Rattle.std.proofs.Common.{◌≡◌, length}
use Rattle.saturate.specs.Above.{HasConcepts}
use Rattle.saturate.proofs.tables.concept_table.Given as goal

abbrev pub invariant-loop-number : goal.invariant-loop-number
invariant-loop-number l = (length l.table.items ≡ l.number)
    × HasConcepts l.place l.graph l.number l.table.items
