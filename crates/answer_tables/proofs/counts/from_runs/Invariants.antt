use Rattle.std.proofs.Common.{take}
use Rattle.answer_tables.proofs.Counting.{Counted}
use Rattle.answer_tables.proofs.counts.from_runs.Given as goal

abbrev pub invariant-loop-run : goal.invariant-loop-run
invariant-loop-run l = Counted (take l.run-index l.runs) l.links.items l.ends.items l.end
