use Rattle.std.proofs.Common.{◌≡◌, take}
use Rattle.checkpoint_state.specs.Suspending.{kept_lists}
use Rattle.checkpoint_state.proofs.lists.lists_of.Given as goal

abbrev pub invariant-loop-k : goal.invariant-loop-k
invariant-loop-k l = l.store ≡ kept_lists (take l.k-index l.kept)
