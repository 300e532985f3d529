use Rattle.std.proofs.Common.{take}
use Rattle.saturate.specs.Sight.{SeesUnion, KeepsSight}
use Rattle.saturate.proofs.sight.see.Given as goal

abbrev pub invariant-loop-query : goal.invariant-loop-query
invariant-loop-query l = KeepsSight l.fn.sight l.sight
    × SeesUnion l.sight (take l.query-index l.union)
