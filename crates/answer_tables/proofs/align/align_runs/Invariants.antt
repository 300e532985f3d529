use Rattle.std.proofs.Common.{◌+◌, ◌-◌, length}
use Rattle.answer_tables.proofs.Aligning.{Aligning}
use Rattle.answer_tables.proofs.align.align_runs.Given as goal

abbrev pub invariant-loop-i : goal.invariant-loop-i
invariant-loop-i l = Aligning l.a l.b l.runs.items l.numbering.joints.items l.i l.j l.rank

abbrev pub decreases-loop-i : goal.decreases-loop-i
decreases-loop-i l = length l.a - l.i + (length l.b - l.j)
