use Rattle.std.proofs.Common.{take}
use Rattle.std.specs.List.{All}
use Rattle.consistency.specs.Prepared.{cores_of}
use Rattle.saturate.specs.Sight.{SeesUnion, KeepsSight}
use Rattle.monitor_core.proofs.opening.see_clashes.Given as goal

abbrev pub invariant-loop-place : goal.invariant-loop-place
invariant-loop-place l = KeepsSight l.fn.sight l.sight
    × All (SeesUnion l.sight) (take l.place (cores_of l.clashes))
