use Rattle.std.proofs.Common.{◌≤◌, take}
use Rattle.perfect_ref.specs.Counting.{ReachAll}
use Rattle.monitor_core.specs.Opening.{all_leaves}
use Rattle.containment_text.specs.Containments.{AreUnionsOf}
use Rattle.containment_text.proofs.unions.unions_of.Given as goal

abbrev pub invariant-loop-query : goal.invariant-loop-query
invariant-loop-query l = record {
  few : l.unions.reached ≤ l.room;
  each : AreUnionsOf l.rewriter (take l.query-index l.queries) l.unions.each.items;
  all : ReachAll l.rewriter (all_leaves (take l.query-index l.queries)) l.unions.reached;
}
