use Rattle.std.proofs.Common.{take}
use Rattle.std.specs.List.{AllZip}
use Rattle.checkpoint_state.specs.Resuming.{IsTableOf}
use Rattle.checkpoint_state.proofs.tables.tables_of.Given as goal

abbrev pub invariant-loop-node : goal.invariant-loop-node
invariant-loop-node l =
    AllZip (IsTableOf l.lists l.query l.slots) (take l.node-index l.nodes) l.tables.items
