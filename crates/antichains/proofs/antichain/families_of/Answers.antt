use Rattle.std.proofs.Common.{arith}
use Rattle.antichains.proofs.Antichains.{FamilyOf-more}
use Rattle.antichains.proofs.antichain.families_of.Goals as goal

pub loop-value-preserved : goal.loop-value-preserved
loop-value-preserved c =
    FamilyOf-more c.args.values.now c.loop-value.families.items _ c.loop-value.value-index
    c.value-item.result c.family.result
    (omega arith) c.value-item.is c.loop-value.invariant c.family.ensures c.in_ok-push.ensures.items
