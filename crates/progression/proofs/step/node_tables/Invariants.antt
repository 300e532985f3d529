use Rattle.progression.proofs.Progress.{Progress}
use Rattle.progression.proofs.step.node_tables.Given as goal

abbrev pub invariant-loop-node : goal.invariant-loop-node
invariant-loop-node l = Progress l.nodes l.slots l.arity l.first l.kept l.leaves l.initial.store
    l.store l.node-index l.tables.items l.values.items
