use Rattle.std.proofs.Common.{◌≤◌, ◌+◌, ◌-◌, length}
use Rattle.consistency.specs.Pairs.{Passed}
use Rattle.consistency.proofs.pairs.have_common.Given as goal

abbrev pub invariant-loop-left : goal.invariant-loop-left
invariant-loop-left l = (l.left ≤ length l.one) × (l.right ≤ length l.other)
    × Passed l.id l.turned l.one l.other l.left l.right

abbrev pub decreases-loop-left : goal.decreases-loop-left
decreases-loop-left l = (length l.one - l.left) + (length l.other - l.right)
