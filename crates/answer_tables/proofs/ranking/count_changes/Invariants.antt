use Rattle.std.proofs.Common.{◌≤◌}
use Rattle.answer_tables.proofs.ranking.count_changes.Given as goal

abbrev pub invariant-loop-byte : goal.invariant-loop-byte
invariant-loop-byte l = l.count ≤ l.byte-index
