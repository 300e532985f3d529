use Rattle.std.proofs.Common.{refl, arith, length}
use Rattle.proof_search.proofs.Origins.{searched_more, stands_number, stands_none}
use Rattle.proof_search.proofs.made.origin.Goals as goal

pub returns-then-stands_for : goal.returns-then-stands_for
returns-then-stands_for c =
    let at = rw c.inclusions-known-items.ensures.same at
    (c.stands_for.ensures.0 c.if-stands_for.true) in
    let within = rw c.inclusions-known-items.ensures.same at c.loop-place-test.true in
    stands_number (length c.args.ontology.now.roles) c.args.ontology.now.inclusions
    c.args.inclusion.now c.loop-place.place c.loop-place.number c.loop-place.invariant _ within _
    refl at

pub loop-place-preserved : goal.loop-place-preserved
loop-place-preserved c =
    let within = rw c.inclusions-known-items.ensures.same at c.loop-place-test.true in
    let is = rw c.inclusions-known-items.ensures.same at c.number_behind-number.ensures in
    let decides = rw c.inclusions-known-items.ensures.same at c.stands_for.ensures in
    searched_more (length c.args.ontology.now.roles) c.args.ontology.now.inclusions
    c.args.inclusion.now c.loop-place.place c.loop-place.number c.loop-place.invariant _ within _
    is (λ at. let yes = decides.1 at in cc)

pub returns : goal.returns
returns c =
    let past = rw c.inclusions-known-items.ensures.same at c.loop-place-test.false in
    stands_none (length c.args.ontology.now.roles) c.args.ontology.now.inclusions
    c.args.inclusion.now c.loop-place.place c.loop-place.number c.loop-place.invariant
    (omega (arith, past))
