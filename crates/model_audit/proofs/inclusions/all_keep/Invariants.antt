-- All so far keep it, the last one too.
use Rattle.std.proofs.Common.{take}
use Rattle.std.specs.Prelude.{IfSome}
use Rattle.std.specs.List.{All}
use Rattle.model_audit.specs.FiniteModels.{Keeps}
use Rattle.model_audit.proofs.inclusions.all_keep.Given as goal

abbrev pub invariant-loop-fact : goal.invariant-loop-fact
invariant-loop-fact l = record {
  all : All (Keeps l.index l.inclusion) (take l.fact-index l.facts);
  last : IfSome l.last (Keeps l.index l.inclusion);
}
