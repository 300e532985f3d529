use Rattle.std.proofs.Common.{length}
use Rattle.answer_tables.proofs.spread.+reach.Given as goal

abbrev pub decreases-reach : goal.decreases-reach
decreases-reach l = length l.weights.now
