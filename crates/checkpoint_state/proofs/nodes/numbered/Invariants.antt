use Rattle.std.proofs.Common.{◌≡◌, take}
use Rattle.std.specs.Prelude.{map}
use Rattle.checkpoint_state.specs.Suspending.{stretch_of}
use Rattle.checkpoint_state.proofs.nodes.numbered.Given as goal

abbrev pub invariant-loop-run : goal.invariant-loop-run
invariant-loop-run l = l.stretches.items ≡ map (stretch_of l.store) (take l.run-index l.runs)
