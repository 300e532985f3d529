use Rattle.std.proofs.lemmas.Result.{on_ok_weaker}
use Rattle.proof_search.proofs.Walking.{number_listed, from_there, some_made, kept_by_step}
use Rattle.proof_search.proofs.Walking.{kept_by_none}
use Rattle.proof_search.proofs.walk.apply.Goals as goal

pub take_step-requires-clause-there : goal.take_step-requires-clause-there
take_step-requires-clause-there c =
    from_there c.args.ontology.now c.args.walk.now.run.items
    c.args.walk.now.known.items c.args.inclusion.now c.args.from.now
    c.count-roles.ensures.sound.inclusions_declared c.requires.kept c.requires.there
    c.in-Some.number (rw c.in-Some.is at c.origin.ensures) c.requires.makes.0 c.requires.makes.1

pub take_step-requires-clause-numbered : goal.take_step-requires-clause-numbered
take_step-requires-clause-numbered c =
    (number_listed c.args.ontology.now c.args.walk.now.run.items
    c.args.walk.now.known.items c.args.inclusion.now c.args.from.now
    c.count-roles.ensures.sound.inclusions_declared c.requires.kept c.requires.there
    c.in-Some.number (rw c.in-Some.is at c.origin.ensures)).0

pub take_step-requires-clause-listed : goal.take_step-requires-clause-listed
take_step-requires-clause-listed c =
    (number_listed c.args.ontology.now c.args.walk.now.run.items
    c.args.walk.now.known.items c.args.inclusion.now c.args.from.now
    c.count-roles.ensures.sound.inclusions_declared c.requires.kept c.requires.there
    c.in-Some.number (rw c.in-Some.is at c.origin.ensures)).1

pub returns-in-Some-clause-steps : goal.returns-in-Some-clause-steps
returns-in-Some-clause-steps c =
    on_ok_weaker c.take_step.result
    (λ h facts has. h facts (some_made c.args.ontology.now c.args.walk.now.run.items
    c.args.walk.now.known.items c.args.inclusion.now c.args.from.now
    c.count-roles.ensures.sound.inclusions_declared c.requires.kept c.requires.there
    c.in-Some.number (rw c.in-Some.is at c.origin.ensures) c.requires.makes.0 c.requires.makes.1)
    has)
    c.take_step.ensures.steps

pub returns-in-Some-clause-kept : goal.returns-in-Some-clause-kept
returns-in-Some-clause-kept c =
    on_ok_weaker c.take_step.result
    (λ grown g makes. kept_by_step c.args.ontology.now c.args.walk.now.run.items
    c.args.walk.now.known.items c.args.inclusion.now c.args.from.now
    c.count-roles.ensures.sound.inclusions_declared c.requires.kept c.requires.there
    c.in-Some.number (rw c.in-Some.is at c.origin.ensures) c.take_step.new.walk.run.items grown g
    makes)
    c.take_step.ensures.run

pub returns-in-None-clause-kept : goal.returns-in-None-clause-kept
returns-in-None-clause-kept c = λ g makes.
    kept_by_none c.args.ontology.now c.args.walk.now.run.items
    c.args.walk.now.known.items c.args.inclusion.now c.args.from.now
    c.count-roles.ensures.sound.inclusions_declared c.requires.kept c.requires.there
    c.requires.told (rw c.in-None.is at c.origin.ensures) g makes
