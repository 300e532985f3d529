use Rattle.std.proofs.Common.{take}
use Rattle.monitor_core.specs.Planning.{SeesLeaves}
use Rattle.monitor_core.proofs.opening.see_leaves.Given as goal

abbrev pub invariant-loop-leaf : goal.invariant-loop-leaf
invariant-loop-leaf l = SeesLeaves l.sight (take l.leaf-index l.leaves)
