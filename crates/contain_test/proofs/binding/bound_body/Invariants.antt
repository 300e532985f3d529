-- The atoms so far are the first of the body, bound.
use Rattle.std.proofs.Common.{◌≡◌, take, map}
use Rattle.query_unify.specs.Substitution.{applied_atom}
use Rattle.contain_test.specs.Binding.{bound_to}
use Rattle.contain_test.proofs.binding.bound_body.Given as goal

abbrev pub invariant-loop-atom : goal.invariant-loop-atom
invariant-loop-atom l =
    l.atoms.items ≡ map (applied_atom (bound_to l.head l.row)) (take l.atom-index l.body)
