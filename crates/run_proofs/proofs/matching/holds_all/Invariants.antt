use Rattle.std.proofs.Common.{take}
use Rattle.dl_syntax.specs.Match.{Match}
use Rattle.run_proofs.specs.Assigned.{assigned}
use Rattle.run_proofs.proofs.matching.holds_all.Given as goal

abbrev pub invariant-loop-atom : goal.invariant-loop-atom
invariant-loop-atom l = Match (take l.atom-index l.body) l.run (assigned l.variables l.elements)
