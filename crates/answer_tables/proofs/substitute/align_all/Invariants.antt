use Rattle.std.proofs.Common.{take}
use Rattle.answer_tables.specs.Substituting.{TellAll}
use Rattle.answer_tables.proofs.substitute.align_all.Given as goal

abbrev pub invariant-loop-place : goal.invariant-loop-place
invariant-loop-place l = TellAll l.table.slots l.table.arity l.table (take l.place l.values)
    l.aligned.ranks l.aligned.joints.items
