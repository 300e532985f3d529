-- Answers to the goals of `first_met`: what is there at each place.
use Rattle.std.proofs.Common.{arith}
use Rattle.std.proofs.lemmas.List.Elements.{All-more}
use Rattle.model_audit.specs.FiniteModels.{Avoids}
use Rattle.model_audit.proofs.Lists.{lacks_here, all_have}
use Rattle.model_audit.proofs.first.first_met.Goals as goal

pub loop-place-preserved : goal.loop-place-preserved
loop-place-preserved c = record {
  all = All-more (Avoids c.args.index.now) c.args.clashes.now c.loop-place.place _
      c.loop-place-test.true c.loop-place.invariant.all
      (c.in_ok-joins_avoided.ensures.tells.0 c.if-not-branch.false);
  known = c.in_ok-joins_avoided.ensures.kept c.if-not-branch.false;
}

pub returns-then-not-branch : goal.returns-then-not-branch
returns-then-not-branch c =
    lacks_here (Avoids c.args.index.now) c.args.clashes.now c.loop-place.place _
    c.loop-place-test.true c.loop-place.invariant.all
    (λ there. let found = c.in_ok-joins_avoided.ensures.tells.1 there in
    let lost = c.if-not-branch.true in cc)

pub returns : goal.returns
returns c =
    all_have (Avoids c.args.index.now) c.args.clashes.now c.loop-place.place (omega arith)
    c.loop-place.invariant.all
