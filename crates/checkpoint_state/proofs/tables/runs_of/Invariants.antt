use Rattle.std.proofs.Common.{◌≡◌, take}
use Rattle.std.specs.Prelude.{map}
use Rattle.checkpoint_state.specs.Resuming.{run_of}
use Rattle.checkpoint_state.proofs.tables.runs_of.Given as goal

abbrev pub invariant-loop-stretch : goal.invariant-loop-stretch
invariant-loop-stretch l = l.runs.items ≡ map (run_of l.lists) (take l.stretch-index l.stretches)
