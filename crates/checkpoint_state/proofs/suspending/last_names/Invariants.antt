use Rattle.std.proofs.Common.{◌≡◌, ◌≤◌, ◌-◌, take, drop}
use Rattle.checkpoint_state.proofs.suspending.last_names.Given as goal

abbrev pub invariant-loop-number : goal.invariant-loop-number
invariant-loop-number l = (l.first ≤ l.number)
    × (l.names.items ≡ take (l.number - l.first) (drop l.first l.ontology.individuals))
