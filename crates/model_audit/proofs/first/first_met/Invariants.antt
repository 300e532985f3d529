-- All before the place have it, and all of the set.
use Rattle.std.proofs.Common.{take}
use Rattle.std.specs.List.{All}
use Rattle.model_audit.specs.FiniteModels.{Avoids}
use Rattle.model_audit.proofs.first.first_met.Given as goal

abbrev pub invariant-loop-place : goal.invariant-loop-place
invariant-loop-place l = record {
  all : All (Avoids l.index) (take l.place l.clashes);
  known : All (Avoids l.index) l.avoided.keys;
}
