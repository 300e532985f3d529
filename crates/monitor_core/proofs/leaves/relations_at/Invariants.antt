use Rattle.std.proofs.Common.{take}
use Rattle.std.specs.List.{AllZip}
use Rattle.monitor_core.specs.Leaves.{StandsAt}
use Rattle.monitor_core.proofs.leaves.relations_at.Given as goal

abbrev pub invariant-loop-place : goal.invariant-loop-place
invariant-loop-place l = AllZip (StandsAt l.relations) (take l.place-index l.places) l.found.items
