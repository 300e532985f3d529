-- The head gets shorter.
use Rattle.std.proofs.Common.{length}
use Rattle.contain_test.proofs.binding.+bound_to.Given as goal

abbrev pub decreases-bound_to : goal.decreases-bound_to
decreases-bound_to l = length l.head.now
