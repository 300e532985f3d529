-- Answers to the goals of `is_satisfied`: the other facts need nothing.
use Rattle.model_audit.proofs.Sides.{keeps_all}
use Rattle.model_audit.proofs.inclusions.is_satisfied.Goals as goal

pub returns : goal.returns
returns c = (
  λ yes.
      (keeps_all c.args.index.now c.applied.result.now c.args.inclusion.now c.applied.ensures).0
      (c.all_keep.ensures.0 yes),
  λ all.
      c.all_keep.ensures.1
      ((keeps_all c.args.index.now c.applied.result.now c.args.inclusion.now c.applied.ensures).1
      all),
)
