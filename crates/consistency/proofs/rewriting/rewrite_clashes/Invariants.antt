use Rattle.std.proofs.Common.{◌≤◌, take}
use Rattle.std.specs.List.{AllZip}
use Rattle.perfect_ref.specs.Counting.{ReachAll}
use Rattle.consistency.specs.Asking.{queries_of}
use Rattle.consistency.specs.Prepared.{IsRewriting}
use Rattle.consistency.proofs.rewriting.rewrite_clashes.Given as goal

abbrev pub invariant-loop-clash : goal.invariant-loop-clash
invariant-loop-clash l = record {
  each : AllZip (IsRewriting l.rewriter) (take l.clash-index l.clashes) l.each.items;
  counted : ReachAll l.rewriter (queries_of (take l.clash-index l.clashes)) l.reached;
  few : l.reached ≤ l.room;
}
