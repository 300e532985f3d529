use Rattle.std.proofs.Common.{take}
use Rattle.answer_tables.specs.Marks.{Marks}
use Rattle.answer_tables.proofs.marks.mark_rows.Given as goal

abbrev pub invariant-loop-place : goal.invariant-loop-place
invariant-loop-place l = Marks l.slots l.rows.arity (take l.place l.rows.rows) l.runs.items l.end
