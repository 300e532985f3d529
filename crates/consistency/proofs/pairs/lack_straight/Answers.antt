use Rattle.consistency.proofs.PairMerge.{straight_terms}
use Rattle.consistency.proofs.pairs.lack_straight.Goals as goal

pub returns : goal.returns
returns c = λ lost.
    straight_terms c.args.index.now c.args.first c.args.second c.args.x c.args.y c.args.z c.args.w
    (c.is_same.ensures.0 c.if-not-is_same.false)
    (c.is_same-2.ensures.0 c.if-not-is_same-2.false) (c.lack_common.ensures lost)
