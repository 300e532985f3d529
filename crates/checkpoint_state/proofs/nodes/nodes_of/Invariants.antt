use Rattle.std.proofs.Common.{◌≡◌, take}
use Rattle.checkpoint_state.specs.Suspending.{nodes_of}
use Rattle.checkpoint_state.proofs.nodes.nodes_of.Given as goal

abbrev pub invariant-loop-entry : goal.invariant-loop-entry
invariant-loop-entry l = l.nodes.items ≡ nodes_of l.store (take l.entry-index l.entries)
