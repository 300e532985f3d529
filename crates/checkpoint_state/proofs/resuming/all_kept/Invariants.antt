use Rattle.std.proofs.Common.{take}
use Rattle.checkpoint_state.specs.Resuming.{AreResumed}
use Rattle.checkpoint_state.proofs.resuming.all_kept.Given as goal

abbrev pub invariant-loop-place : goal.invariant-loop-place
invariant-loop-place l =
    AreResumed l.lists l.slots l.accepted (take l.place l.queries) (take l.place l.nodes)
    l.kept.items
