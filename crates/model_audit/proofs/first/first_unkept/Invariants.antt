-- All before the place have it.
use Rattle.std.proofs.Common.{take}
use Rattle.std.specs.List.{All}
use Rattle.model_audit.specs.FiniteModels.{Keeps}
use Rattle.model_audit.proofs.first.first_unkept.Given as goal

abbrev pub invariant-loop-place : goal.invariant-loop-place
invariant-loop-place l = All (Keeps l.index l.inclusion) (take l.place l.facts)
