use Rattle.std.proofs.Common.{◌∙◌, ap, sym}
use Rattle.worklist.proofs.ListedLists.{listed-at, listed-beyond}
use Rattle.worklist.proofs.lists.list_at.Goals as goal

pub returns-then-place-lists : goal.returns-then-place-lists
returns-then-place-lists g c =
    c.as_slice.ensures.value ∙ ap (λ v. v.items) c.index-lists-place.is ∙ listed-at c.args.lists.now
    c.args.number c.index-lists-place.result c.if-place-lists.true

pub returns-else-place-lists : goal.returns-else-place-lists
returns-else-place-lists g c =
    sym (listed-beyond c.args.lists.now c.args.number c.if-place-lists.false)
