use Rattle.std.proofs.Common.{◌∙◌, ap}
use Rattle.worklist.specs.Lists.{listed}
use Rattle.worklist.proofs.ListedLists.{listed-push}
use Rattle.worklist.proofs.lists.reserve.Goals as goal

pub loop-alloc-preserved : goal.loop-alloc-preserved
loop-alloc-preserved g c = λ k.
    ap (λ lists. listed lists k) c.in_ok-push.ensures.items ∙ listed-push c.loop-alloc.lists.items
    c.new-list.result c.new-list.ensures.items k ∙ c.loop-alloc.invariant k
