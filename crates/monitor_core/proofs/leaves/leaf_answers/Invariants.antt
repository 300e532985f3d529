use Rattle.std.proofs.Common.{take}
use Rattle.std.specs.List.{AllZip}
use Rattle.monitor_core.specs.Leaves.{AreUnionAnswers}
use Rattle.monitor_core.proofs.leaves.leaf_answers.Given as goal

abbrev pub invariant-loop-leaf : goal.invariant-loop-leaf
invariant-loop-leaf l = AllZip (AreUnionAnswers l.index) (take l.leaf-index l.leaves) l.rows.items
