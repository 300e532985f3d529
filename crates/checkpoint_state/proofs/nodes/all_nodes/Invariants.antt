use Rattle.std.proofs.Common.{◌≡◌, take}
use Rattle.checkpoint_state.specs.Suspending.{all_nodes}
use Rattle.checkpoint_state.proofs.nodes.all_nodes.Given as goal

abbrev pub invariant-loop-k : goal.invariant-loop-k
invariant-loop-k l = l.queries.items ≡ all_nodes l.store (take l.k-index l.kept)
