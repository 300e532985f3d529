use Rattle.std.proofs.Common.{◌<◌, length}
use Rattle.ucq_join.proofs.join.best_place.Given as goal

abbrev pub invariant-loop-place : goal.invariant-loop-place
invariant-loop-place l = l.best < length l.atoms
