use Rattle.std.proofs.Common.{◌≤◌, take}
use Rattle.progression.specs.Tables.{leaves_of}
use Rattle.monitor_core.specs.Planning.{AreLeaves}
use Rattle.monitor_core.specs.Opening.{KeepsLeaves, Gathers}
use Rattle.monitor_core.proofs.gathering.places_of_query.Given as goal

abbrev pub invariant-loop-node : goal.invariant-loop-node
invariant-loop-node l = record {
  few : l.places.reached ≤ l.room;
  leaves : AreLeaves l.rewriter l.leaves.items;
  kept : KeepsLeaves l.fn.leaves.items l.leaves.items;
  ok : Gathers l.rewriter (leaves_of (take l.node-index l.nodes)) l.leaves.items l.places.each.items
      l.places.reached;
}
