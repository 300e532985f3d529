-- Answers to the goals of `first_unsatisfied`: what is there at each place.
use Rattle.std.proofs.Common.{arith}
use Rattle.std.proofs.lemmas.List.Elements.{All-more}
use Rattle.model_audit.specs.FiniteModels.{Satisfies}
use Rattle.model_audit.proofs.Lists.{lacks_here, all_have}
use Rattle.model_audit.proofs.first.first_unsatisfied.Goals as goal

pub loop-place-preserved : goal.loop-place-preserved
loop-place-preserved c = record {
  all = All-more (Satisfies c.args.index.now) c.args.inclusions.now c.loop-place.place _
      c.loop-place-test.true c.loop-place.invariant.all
      (c.in_ok-joins_satisfied.ensures.tells.0 c.if-not-branch.false);
  known = c.in_ok-joins_satisfied.ensures.kept c.if-not-branch.false;
}

pub returns-then-not-branch : goal.returns-then-not-branch
returns-then-not-branch c =
    lacks_here (Satisfies c.args.index.now) c.args.inclusions.now c.loop-place.place _
    c.loop-place-test.true c.loop-place.invariant.all
    (λ there. let found = c.in_ok-joins_satisfied.ensures.tells.1 there in
    let lost = c.if-not-branch.true in cc)

pub returns : goal.returns
returns c =
    all_have (Satisfies c.args.index.now) c.args.inclusions.now c.loop-place.place (omega arith)
    c.loop-place.invariant.all
