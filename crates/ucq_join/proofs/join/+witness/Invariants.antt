use Rattle.std.proofs.Common.{◌≡◌, ◌+◌, ◌*◌, length, take}
use Rattle.ucq_join.specs.Partial.{HasMatchAmong}
use Rattle.ucq_join.proofs.join.+witness.Given as goal

abbrev pub decreases-has_match : goal.decreases-has_match
decreases-has_match l = 2 * length l.body.now + 1

abbrev pub decreases-has_match_at : goal.decreases-has_match_at
decreases-has_match_at l = 2 * length l.rest.now + 2

-- no match at the candidates so far
abbrev pub invariant-has_match-loop-fact : goal.invariant-has_match-loop-fact
invariant-has_match-loop-fact l = record {
  same : l.bindings.items ≡ l.fn.bindings.items;
  apart : HasMatchAmong l.index l.atom l.rest l.fn.bindings.items (take l.fact-index l.fact-items)
      → ⊥;
}
