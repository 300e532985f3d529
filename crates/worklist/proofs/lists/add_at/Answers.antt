use Rattle.std.proofs.Common.{◌++◌, ◌∷◌, [], ◌∙◌, ap}
use Rattle.worklist.proofs.ListedLists.{listed-put}
use Rattle.worklist.proofs.lists.add_at.Goals as goal

pub returns : goal.returns
returns g c =
    listed-put c.args.lists.now.items c.reserve.new.lists.items c.args.number c.push.new.self
    c.index_mut.result.now c.args.item c.in_ok-reserve.ensures.room c.in_ok-reserve.ensures.same
    (c.in_ok-push.ensures.items ∙ ap (λ v. v.items ++ c.args.item ∷ []) c.index_mut.ensures.value)
