use Rattle.std.proofs.Common.{take}
use Rattle.saturate.specs.Above.{IsIndex}
use Rattle.saturate.proofs.graph.index_by.Given as goal

abbrev pub invariant-loop-arrow : goal.invariant-loop-arrow
invariant-loop-arrow l = IsIndex l.place (take l.arrow-index l.arrows) l.lists.items
