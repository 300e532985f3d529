-- The antichains of each table are in the store, and one table more is one node more, or none.
use Rattle.std.proofs.Common.{ℕ}
use Rattle.std.specs.List.{Contains}
use Rattle.answer_tables.specs.Lengths.{antichains_in}
use Rattle.answer_tables.specs.Table.{Antichains}
use Rattle.checkpoint_state.proofs.Loops.{flat_at, nodes_next}
use Rattle.checkpoint_state.proofs.nodes.nodes_of.Goals as goal

pub push_node-requires-clause-known : goal.push_node-requires-clause-known
push_node-requires-clause-known c =
    flat_at (Contains c.args.store.now) (λ (entry : ℕ × Antichains). antichains_in entry.1)
    c.args.entries.now c.loop-entry.entry-index c.entry-item.result c.loop-entry-test.true
    c.entry-item.is c.requires.known

pub loop-entry-preserved : goal.loop-entry-preserved
loop-entry-preserved c =
    nodes_next c.args.store.now c.args.entries.now c.loop-entry.entry-index c.entry-item.result
    c.loop-entry.nodes.items c.push_node.new.nodes.items c.loop-entry-test.true c.entry-item.is
    c.loop-entry.invariant c.in_ok-push_node.ensures
