use Rattle.std.proofs.Common.{◌<◌, length}
use Rattle.std.proofs.lemmas.List.Sorted.{IsPermutation-more}
use Rattle.ucq_join.proofs.join.ordered.Goals as goal

pub loop-atoms-preserved : goal.loop-atoms-preserved
loop-atoms-preserved c =
    let bound : c.best_place-place.result < length c.loop-atoms.rest.items =
    rw c.as_slice-in-loop-atoms.ensures.value at c.best_place-place.ensures in
    rw (c.in_ok-push.ensures.items, c.remove-atom.ensures.items)
    (IsPermutation-more c.args.body.now c.loop-atoms.atoms.items c.loop-atoms.rest.items
    c.best_place-place.result c.remove-atom.result bound c.remove-atom.ensures.value
    c.loop-atoms.invariant)
