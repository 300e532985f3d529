use Rattle.std.proofs.Common.{◌∙◌}
use Rattle.query_unify.proofs.Composed.{IsMostGeneral-pairs, pairs-apart}
use Rattle.query_unify.proofs.unifier.unify.Goals as goal

pub returns-in_ok-pairs-in-Some-clause-unifies : goal.returns-in_ok-pairs-in-Some-clause-unifies
returns-in_ok-pairs-in-Some-clause-unifies c =
    IsMostGeneral-pairs c.in-Some.bindings _ c.args.a.now c.args.b.now
    (c.from_vec-pairs.ensures ∙ c.in_ok-pairs-in-Some.ensures) c.in-Some.ensures.unifies

pub returns-in_ok-pairs-in-Some-clause-once : goal.returns-in_ok-pairs-in-Some-clause-once
returns-in_ok-pairs-in-Some-clause-once c =
    pairs-apart c.in-Some.bindings _ (c.from_vec-pairs.ensures ∙ c.in_ok-pairs-in-Some.ensures)
    c.in-Some.ensures.apart
