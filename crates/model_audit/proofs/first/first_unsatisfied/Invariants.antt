-- All before the place have it, and all of the set.
use Rattle.std.proofs.Common.{take}
use Rattle.std.specs.List.{All}
use Rattle.model_audit.specs.FiniteModels.{Satisfies}
use Rattle.model_audit.proofs.first.first_unsatisfied.Given as goal

abbrev pub invariant-loop-place : goal.invariant-loop-place
invariant-loop-place l = record {
  all : All (Satisfies l.index) (take l.place l.inclusions);
  known : All (Satisfies l.index) l.satisfied.keys;
}
