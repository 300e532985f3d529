use Rattle.std.proofs.Common.{◌++◌, vec_len}
use Rattle.std.specs.List.Sorted.{IsPermutation}
use Rattle.ucq_join.proofs.join.ordered.Given as goal

-- the atoms so far and those that are left
abbrev pub invariant-loop-atoms : goal.invariant-loop-atoms
invariant-loop-atoms l = IsPermutation l.fn.body (l.atoms.items ++ l.rest.items)

abbrev pub decreases-loop-atoms : goal.decreases-loop-atoms
decreases-loop-atoms l = vec_len l.rest
