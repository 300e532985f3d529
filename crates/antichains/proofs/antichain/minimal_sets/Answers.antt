use Rattle.antichains.proofs.Antichains.{Extracts-step, IsMinimal-extracted}
use Rattle.antichains.proofs.antichain.minimal_sets.Goals as goal

pub loop-set-preserved : goal.loop-set-preserved
loop-set-preserved c = Extracts-step c.args.family _ c.above.result _ _ _ _ c.loop-set.invariant
    c.in-Some.ensures c.above.ensures c.without-rest.ensures c.in_ok-push.ensures.items

pub returns : goal.returns
returns c = IsMinimal-extracted c.args.family _ _ c.requires c.loop-set.invariant
    c.in_default.ensures
