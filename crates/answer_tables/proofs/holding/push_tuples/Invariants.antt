use Rattle.answer_tables.specs.Holding.{Listed}
use Rattle.answer_tables.proofs.holding.push_tuples.Given as goal

abbrev pub invariant-loop-rank : goal.invariant-loop-rank
invariant-loop-rank l = Listed l.slots l.bound l.fn.rows l.start l.rank l.rows
