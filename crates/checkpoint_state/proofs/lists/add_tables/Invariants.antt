use Rattle.std.proofs.Common.{◌≡◌, take}
use Rattle.formula_store.specs.Interned.{interned_all}
use Rattle.checkpoint_state.specs.Suspending.{antichains_in_all}
use Rattle.checkpoint_state.proofs.lists.add_tables.Given as goal

abbrev pub invariant-loop-entry : goal.invariant-loop-entry
invariant-loop-entry l =
    l.store ≡ interned_all l.initial.store (antichains_in_all (take l.entry-index l.entries))
