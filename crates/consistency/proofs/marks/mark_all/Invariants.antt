use Rattle.std.proofs.Common.{take}
use Rattle.std.specs.List.{All}
use Rattle.consistency.specs.Marking.{IsMarked}
use Rattle.consistency.proofs.marks.mark_all.Given as goal

abbrev pub invariant-loop-fact : goal.invariant-loop-fact
invariant-loop-fact l = All (IsMarked l.concepts l.width l.words) (take l.fact-index l.facts)
