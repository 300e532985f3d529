use Rattle.std.proofs.Common.{◌≡◌, length}
use Rattle.proof_search.proofs.Matched.{BindsFront}
use Rattle.proof_search.proofs.matching.bind_head.Given as goal

abbrev pub invariant-loop-place : goal.invariant-loop-place
invariant-loop-place l = record {
  front : BindsFront l.head l.row l.place l.bindings.items;
  same : length l.head ≡ length l.row;
}
