-- The antichains that are kept of each query are in the store.
use Rattle.std.proofs.Common.{ℕ, List, sym, subst}
use Rattle.std.specs.Prelude.{All}
use Rattle.std.specs.List.{Contains}
use Rattle.answer_tables.specs.Table.{Antichains}
use Rattle.progression.specs.declared.kept.Kept.{Kept}
use Rattle.checkpoint_state.specs.Suspending.{antichains_in_all}
use Rattle.checkpoint_state.proofs.Loops.{flat_at}
use Rattle.checkpoint_state.proofs.nodes.all_nodes.Goals as goal

pub nodes_of-requires-clause-known : goal.nodes_of-requires-clause-known
nodes_of-requires-clause-known c =
    subst (λ (es : List (ℕ × Antichains)). All (Contains c.args.store.now) (antichains_in_all es))
    (sym c.as_slice.ensures.value)
    (flat_at (Contains c.args.store.now) (λ (k : Kept). antichains_in_all k.tables.items)
    c.args.kept.now c.loop-k.k-index c.k-item.result c.loop-k-test.true c.k-item.is
    c.requires.known)
