-- Answers to the goals of `first_unkept`: what is there at each place.
use Rattle.std.proofs.Common.{arith}
use Rattle.std.proofs.lemmas.List.Elements.{All-more}
use Rattle.model_audit.specs.FiniteModels.{Keeps}
use Rattle.model_audit.proofs.Lists.{lacks_here, all_have}
use Rattle.model_audit.proofs.first.first_unkept.Goals as goal

pub loop-place-preserved : goal.loop-place-preserved
loop-place-preserved c =
    All-more (Keeps c.args.index.now c.args.inclusion.now) c.args.facts.now c.loop-place.place _
    c.loop-place-test.true c.loop-place.invariant
    (c.keeps.ensures.0 c.if-not-keeps.false)

pub returns-then-not-keeps : goal.returns-then-not-keeps
returns-then-not-keeps c =
    lacks_here (Keeps c.args.index.now c.args.inclusion.now) c.args.facts.now c.loop-place.place _
    c.loop-place-test.true c.loop-place.invariant
    (λ there. let found = c.keeps.ensures.1 there in let lost = c.if-not-keeps.true in cc)

pub returns : goal.returns
returns c =
    all_have (Keeps c.args.index.now c.args.inclusion.now) c.args.facts.now c.loop-place.place
    (omega arith) c.loop-place.invariant
