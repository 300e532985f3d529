use Rattle.std.proofs.Common.{take}
use Rattle.std.specs.List.{All}
use Rattle.saturate.specs.Sight.{SeesAtom, KeepsSight}
use Rattle.saturate.proofs.sight.see_body.Given as goal

abbrev pub invariant-loop-atom : goal.invariant-loop-atom
invariant-loop-atom l = KeepsSight l.fn.sight l.sight
    × All (SeesAtom l.sight) (take l.atom-index l.body)
