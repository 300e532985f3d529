use Rattle.std.proofs.Common.{take}
use Rattle.run_proofs.proofs.Numbers.{Collects}
use Rattle.run_proofs.proofs.variables.variables_of.Given as goal

abbrev pub invariant-loop-atom : goal.invariant-loop-atom
invariant-loop-atom l = Collects (take l.atom-index l.body) l.numbers.items
