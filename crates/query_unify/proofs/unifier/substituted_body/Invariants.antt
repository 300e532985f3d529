use Rattle.std.proofs.Common.{◌≡◌, take, map}
use Rattle.query_unify.specs.Substitution.{applied_atom}
use Rattle.query_unify.specs.Bindings.{both_images}
use Rattle.query_unify.proofs.unifier.substituted_body.Given as goal

abbrev pub invariant-loop-atom : goal.invariant-loop-atom
invariant-loop-atom l = l.atoms.items
    ≡ map (applied_atom (both_images l.bindings)) (take l.atom-index l.body)
