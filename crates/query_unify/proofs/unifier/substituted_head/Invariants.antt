use Rattle.std.proofs.Common.{◌≡◌, take, map}
use Rattle.query_unify.specs.Substitution.{applied}
use Rattle.query_unify.specs.Bindings.{both_images}
use Rattle.query_unify.proofs.unifier.substituted_head.Given as goal

abbrev pub invariant-loop-term : goal.invariant-loop-term
invariant-loop-term l = l.terms.items
    ≡ map (applied (both_images l.bindings)) (take l.term-index l.head)
