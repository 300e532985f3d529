use Rattle.std.proofs.Common.{◌≤◌}
use Rattle.answer_tables.specs.Patching.{IsWritten}
use Rattle.answer_tables.proofs.patch.write.Given as goal

abbrev pub invariant-loop-rank : goal.invariant-loop-rank
invariant-loop-rank l = record {
  written : IsWritten l.initial.bytes.items l.start l.rank l.byte l.bytes.items;
  from : l.start ≤ l.rank;
  within : l.rank ≤ l.end;
}
