use Rattle.std.proofs.Common.{◌≡◌, ◌≤◌, ◌+◌, ◌∙◌, ℕ, refl, sym, ap, cond, length, arith}
use Rattle.std.specs.Prelude.{Some, slice_get}
use Rattle.std.proofs.lemmas.Option.{slice_get_read}
use Rattle.tcq_syntax.specs.Formula.{is_future}
use Rattle.checkpoint_reader.proofs.PartSets.{AreOwnSets-step, HasChildrenBelow-le}
use Rattle.checkpoint_reader.proofs.PartSets.{number_at-next, number_at-few}
use Rattle.std.proofs.Common.{◌<◌, List}
use Rattle.std.specs.List.{count_by}
use Rattle.std.proofs.lemmas.List.{take_all}
use Rattle.tcq_syntax.specs.declared.nodes.Node.{Node}
use Rattle.tcq_syntax.specs.Formula.{number_at}
use Rattle.checkpoint_reader.proofs.own_sets.own_sets.Goals as goal

pub joined_set-requires-clause-children : goal.joined_set-requires-clause-children
joined_set-requires-clause-children c =
    let nodes = c.args.nodes.now in
    let place = c.loop-place.place in
    let at : slice_get nodes place ≡ Some c.index-nodes-place.result =
    slice_get_read nodes _ _ _ refl c.loop-place-test.true c.index-nodes-place.is in
    let le : place ≤ length c.loop-place.sets =
    omega (arith, c.loop-place-test.true, c.requires.small, c.index-nodes-place.array_long) in
    HasChildrenBelow-le place (length c.loop-place.sets) le c.index-nodes-place.result
    (c.requires.table place c.index-nodes-place.result at)

pub loop-place-preserved : goal.loop-place-preserved
loop-place-preserved c =
    let nodes = c.args.nodes.now in
    let place = c.loop-place.place in
    let inv = c.loop-place.invariant in
    let m = c.index-nodes-place.result in
    let k = c.index-nodes-place-in-loop-place.result in
    let at : slice_get nodes place ≡ Some m =
    slice_get_read nodes _ _ _ refl c.loop-place-test.true c.index-nodes-place.is in
    let also : slice_get nodes place ≡ Some k =
    slice_get_read nodes _ _ _ refl c.loop-place-test.true
    c.index-nodes-place-in-loop-place.is in
    record {
      number = c.next_number-number.ensures ∙ ap (λ (n : ℕ).
          n + cond (is_future k) 1 0) inv.number ∙ sym (number_at-next nodes place k also);
      sets = AreOwnSets-step nodes c.requires.table place m at c.loop-place.number inv.number
          c.loop-place.sets _ _ refl
          (omega (arith, c.loop-place-test.true, c.requires.small, c.index-nodes-place.array_long))
          inv.sets c.joined_set.result c.joined_set.ensures refl;
    }

pub joined_set-requires-clause-number : goal.joined_set-requires-clause-number
joined_set-requires-clause-number c future =
    let nodes = c.args.nodes.now in
    let place = c.loop-place.place in
    let m = c.index-nodes-place.result in
    let at : slice_get nodes place ≡ Some m =
    slice_get_read nodes _ _ _ refl c.loop-place-test.true c.index-nodes-place.is in
    let whole : number_at nodes (length nodes) ≡ count_by is_future nodes =
    ap (λ (xs : List Node). count_by is_future xs) (take_all (length nodes) nodes (omega arith)) in
    let few : number_at nodes (length nodes) ≤ 8 = omega (arith, whole, c.requires.futures) in
    let below : number_at nodes place < 8 = number_at-few nodes place m at future few in
    omega (arith, below, c.loop-place.invariant.number)
