use Rattle.std.proofs.Common.{◌≡◌}
use Rattle.tcq_reader.specs.Leaves.{answer_head}
use Rattle.tcq_reader.proofs.leaf.answer_head.Given as goal

abbrev pub invariant-loop-variable : goal.invariant-loop-variable
invariant-loop-variable l = l.head.items ≡ answer_head l.variable l.body
