use Rattle.std.proofs.Common.{◌≤◌, take}
use Rattle.monitor_core.specs.Planning.{AreLeaves, AreAllPlaces, AreTables}
use Rattle.perfect_ref.specs.Counting.{ReachAll}
use Rattle.monitor_core.specs.Opening.{all_leaves}
use Rattle.monitor_core.proofs.gathering.all_leaves_of.Given as goal

abbrev pub invariant-loop-query : goal.invariant-loop-query
invariant-loop-query l = record {
  few : l.all.reached ≤ l.room;
  tables : AreTables (take l.query-index l.queries);
  leaves : AreLeaves l.rewriter l.all.leaves.items;
  places : AreAllPlaces l.rewriter l.all.leaves.items (take l.query-index l.queries)
      l.all.places.items;
  all : ReachAll l.rewriter (all_leaves (take l.query-index l.queries)) l.all.reached;
}
