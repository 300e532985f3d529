use Rattle.std.proofs.Common.{◌≡◌, take}
use Rattle.std.specs.Prelude.{map}
use Rattle.formula_store.specs.Interned.{interned_all}
use Rattle.checkpoint_state.proofs.lists.add_runs.Given as goal

abbrev pub invariant-loop-run : goal.invariant-loop-run
invariant-loop-run l =
    l.store ≡ interned_all l.initial.store (map (λ r. r.1) (take l.run-index l.runs))
