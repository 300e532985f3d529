use Rattle.std.proofs.Common.{arith, get_or}
use Rattle.consistency.proofs.MarkBits.{no_common_bit}
use Rattle.consistency.proofs.refute.meet.Goals as goal

pub returns : goal.returns
returns c = λ _ k i below a b. no_common_bit (get_or c.args.one.now k 0)
    (get_or c.args.other.now k 0) i (c.loop-place.invariant k (omega arith)) a b
