use Rattle.std.proofs.Common.{◌-◌, ◌≤◌}
use Rattle.answer_tables.specs.Masking.{Copied}
use Rattle.answer_tables.proofs.mask.copy_up_to.Given as goal

abbrev pub invariant-loop-rank : goal.invariant-loop-rank
invariant-loop-rank l = record {
  copied : Copied l.ranking l.initial.runs.items l.rank l.runs.items;
  above : l.start ≤ l.rank;
  within : l.rank ≤ l.end;
}

abbrev pub decreases-loop-rank : goal.decreases-loop-rank
decreases-loop-rank l = l.end - l.rank
