use Rattle.std.proofs.Common.{◌-◌, length}
use Rattle.antichains.proofs.Antichains.{Extracts}
use Rattle.antichains.proofs.antichain.minimal_sets.Given as goal

abbrev pub invariant-loop-set : goal.invariant-loop-set
invariant-loop-set l = Extracts l.fn.family l.rest l.sets.items

abbrev pub decreases-loop-set : goal.decreases-loop-set
decreases-loop-set l = 256 - length l.sets.items
