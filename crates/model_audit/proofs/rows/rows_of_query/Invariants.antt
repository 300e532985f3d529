-- The rows so far are those of the leaves so far.
use Rattle.std.proofs.Common.{take}
use Rattle.std.specs.List.{AllZip}
use Rattle.model_audit.specs.Rows.{AreRowsOf, leaf_queries}
use Rattle.model_audit.proofs.rows.rows_of_query.Given as goal

abbrev pub invariant-loop-node : goal.invariant-loop-node
invariant-loop-node l =
    AllZip (AreRowsOf l.index l.count) (leaf_queries (take l.node-index l.nodes)) l.rows.items
