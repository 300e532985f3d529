use Rattle.std.proofs.Common.{◌≡◌, ◌++◌, take}
use Rattle.std.specs.Prelude.{flat_map}
use Rattle.checkpoint_text.specs.Text.{ended, node_line}
use Rattle.checkpoint_text.proofs.writing.append_nodes.Given as goal

abbrev pub invariant-loop-node : goal.invariant-loop-node
invariant-loop-node l = l.out.items ≡ l.initial.out.items
    ++ flat_map (λ node. ended (node_line node)) (take l.node-index l.nodes)
