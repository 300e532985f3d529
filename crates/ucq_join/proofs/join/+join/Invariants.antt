use Rattle.std.proofs.Common.{◌≡◌, ◌+◌, ◌*◌, length, take}
use Rattle.ucq_join.specs.Partial.{IsAnswerAmong}
use Rattle.ucq_join.specs.Gathered.{AddsRows}
use Rattle.ucq_join.proofs.join.+join.Given as goal

abbrev pub decreases-extend : goal.decreases-extend
decreases-extend l = 2 * length l.body.now + 1

abbrev pub decreases-extend_at : goal.decreases-extend_at
decreases-extend_at l = 2 * length l.rest.now + 2

-- the answers at the candidates so far
abbrev pub invariant-extend-loop-fact : goal.invariant-extend-loop-fact
invariant-extend-loop-fact l = record {
  same : l.bindings.items ≡ l.fn.bindings.items;
  added : AddsRows l.fn.rows l.rows (IsAnswerAmong l.index l.head l.atom l.rest l.fn.bindings.items
      (take l.fact-index l.fact-items));
}
