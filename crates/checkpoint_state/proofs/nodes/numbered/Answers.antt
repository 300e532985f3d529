-- The antichain of each run is in the store.
use Rattle.std.proofs.Common.{ℕ, List, sym, subst}
use Rattle.std.specs.List.{Contains}
use Rattle.checkpoint_state.proofs.nodes.numbered.Goals as goal

pub stretch_of-requires-clause-known : goal.stretch_of-requires-clause-known
stretch_of-requires-clause-known c =
    subst (λ (r : ℕ × List ℕ). Contains c.args.store.now r.1) (sym c.run-item.is)
    (c.requires.known c.loop-run.run-index c.run-item.result c.loop-run-test.true)
