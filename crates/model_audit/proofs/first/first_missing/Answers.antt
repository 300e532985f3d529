-- Answers to the goals of `first_missing`: what is there at each place.
use Rattle.std.proofs.Common.{arith}
use Rattle.std.proofs.lemmas.List.Elements.{All-more}
use Rattle.std.specs.List.{Contains}
use Rattle.model_audit.proofs.Lists.{lacks_here, all_have}
use Rattle.model_audit.proofs.first.first_missing.Goals as goal

pub loop-place-preserved : goal.loop-place-preserved
loop-place-preserved c =
    All-more (Contains c.args.index.now) c.args.facts.now c.loop-place.place _
    c.loop-place-test.true c.loop-place.invariant
    (c.has.ensures.0 c.if-not-has.false)

pub returns-then-not-has : goal.returns-then-not-has
returns-then-not-has c =
    lacks_here (Contains c.args.index.now) c.args.facts.now c.loop-place.place _
    c.loop-place-test.true c.loop-place.invariant
    (λ there. let found = c.has.ensures.1 there in let lost = c.if-not-has.true in cc)

pub returns : goal.returns
returns c =
    all_have (Contains c.args.index.now) c.args.facts.now c.loop-place.place (omega arith)
    c.loop-place.invariant
