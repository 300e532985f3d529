use Rattle.std.proofs.Common.{◌≡◌}
use Rattle.tcq_syntax.specs.Formula.{number_at}
use Rattle.progression.proofs.WeakNodes.{IsWeakTo}
use Rattle.progression.proofs.weak.weak_set.Given as goal

abbrev pub invariant-loop-node : goal.invariant-loop-node
invariant-loop-node l = record {
  number : l.number ≡ number_at l.nodes l.node-index;
  weak : IsWeakTo l.nodes l.node-index l.set;
}
