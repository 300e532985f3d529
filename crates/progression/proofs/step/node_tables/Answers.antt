use Rattle.std.proofs.Common.{◌≡◌, refl}
use Rattle.std.specs.Prelude.{Some, slice_get}
use Rattle.std.proofs.lemmas.Option.{slice_get_read}
use Rattle.progression.proofs.Progress.{Progress-read}
use Rattle.progression.proofs.step.node_tables.Goals as goal

pub loop-node-preserved : goal.loop-node-preserved
loop-node-preserved c =
    let nodes = c.args.nodes.now in
    let i = c.loop-node.node-index in
    let at : slice_get nodes i ≡ Some c.node-item.result =
    slice_get_read nodes _ _ _ refl c.loop-node-test.true c.node-item.is in
    Progress-read nodes c.requires.table c.requires.futures c.args.slots c.args.arity c.args.first
    c.args.kept.now c.args.leaves.now
    c.args.store.now c.loop-node.store c.node_table.new.store i c.loop-node.tables.items
    c.loop-node.values.items c.loop-node.invariant c.node-item.result at
    c.as_slice.result.now c.as_slice-in-loop-node.result.now c.as_slice.ensures.value
    c.as_slice-in-loop-node.ensures.value
    c.in_ok-table.table c.in_ok-table.ensures.table c.in_ok-table.ensures.grown
    c.as_slice-in-loop-node-2.result.now c.push.new.self.items c.in_ok-values.values.items
    c.as_slice-in-loop-node-2.ensures.value c.in_ok-push.ensures.items c.in_ok-values.ensures
