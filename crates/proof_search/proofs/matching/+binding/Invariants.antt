use Rattle.std.proofs.Common.{◌≡◌, ◌+◌, ◌*◌, length, take}
use Rattle.proof_search.specs.Known.{facts_in}
use Rattle.proof_search.specs.Matching.{HasMatchAmong}
use Rattle.proof_search.proofs.matching.+binding.Given as goal

abbrev pub decreases-bind_body : goal.decreases-bind_body
decreases-bind_body l = 2 * length l.body.now + 1

abbrev pub decreases-bind_first : goal.decreases-bind_first
decreases-bind_first l = 2 * length l.rest.now + 2

-- no match at the candidates so far
abbrev pub invariant-bind_body-loop-fact : goal.invariant-bind_body-loop-fact
invariant-bind_body-loop-fact l = record {
  same : l.bindings.items ≡ l.fn.bindings.items;
  apart : HasMatchAmong (facts_in l.known) l.atom l.rest l.fn.bindings.items
      (take l.fact-index l.fact-items) → ⊥;
}
