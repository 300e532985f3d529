-- Answers to the goals of `all_keep`: one more fact keeps it.
use Rattle.std.proofs.Common.{refl, arith}
use Rattle.std.proofs.lemmas.List.Elements.{All-more}
use Rattle.model_audit.specs.FiniteModels.{Keeps}
use Rattle.model_audit.proofs.Lists.{all_have}
use Rattle.model_audit.proofs.inclusions.all_keep.Goals as goal

pub loop-fact-preserved : goal.loop-fact-preserved
loop-fact-preserved c = record {
  all = All-more (Keeps c.args.index.now c.args.inclusion.now) c.args.facts.now
      c.loop-fact.fact-index _ c.loop-fact-test.true c.loop-fact.invariant.all
      (c.keeps_after.ensures.0 c.if-not-keeps_after.false);
  last = c.keeps_after.ensures.0 c.if-not-keeps_after.false;
}

pub returns : goal.returns
returns c = (
  λ yes.
      all_have (Keeps c.args.index.now c.args.inclusion.now) c.args.facts.now
      c.loop-fact.fact-index (omega arith) c.loop-fact.invariant.all,
  λ all. refl,
)
