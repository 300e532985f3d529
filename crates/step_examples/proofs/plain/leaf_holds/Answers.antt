use Rattle.std.proofs.Common.{◌∙◌, sym}
use Rattle.step_examples.proofs.PlainLeaves.{of_first, of_second}
use Rattle.step_examples.proofs.plain.leaf_holds.Goals as goal

pub returns-in-len1 : goal.returns-in-len1
returns-in-len1 c = of_first c.args.fact c.args.q.now c.as_slice.result.now _ c.as_slice.ensures
    (sym c.is_of_first.ensures ∙ c.if-is_of_first.true)

pub returns-in_default-2 : goal.returns-in_default-2
returns-in_default-2 c = of_second c.args.fact c.args.q.now c.as_slice.result.now _
    c.as_slice.ensures (sym c.is_of_first.ensures ∙ c.if-is_of_first.false)
