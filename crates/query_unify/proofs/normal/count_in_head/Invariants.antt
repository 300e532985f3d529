use Rattle.std.proofs.Common.{◌≡◌, take}
use Rattle.query_unify.specs.Normal.{distinct, variables_of, numbers}
use Rattle.query_unify.proofs.normal.count_in_head.Given as goal

abbrev pub invariant-loop-term : goal.invariant-loop-term
invariant-loop-term l = distinct (variables_of (take l.term-index l.head)) ≡ numbers l.count
