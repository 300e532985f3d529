use Rattle.std.proofs.Common.{◌≡◌, ◌++◌, take}
use Rattle.query_unify.specs.Normal.{distinct, variables_of, terms_of, numbers}
use Rattle.query_unify.proofs.normal.count_in_order.Given as goal

abbrev pub invariant-loop-atom : goal.invariant-loop-atom
invariant-loop-atom l =
    distinct (variables_of (l.cq.head ++ terms_of (take l.atom-index l.cq.body))) ≡ numbers l.count
