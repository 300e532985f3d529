use Rattle.std.proofs.Common.{◌<◌, arith, length, subst, sym}
use Rattle.tcq_syntax.specs.Formula.{formula_at, number_at}
use Rattle.step_examples.specs.Plain.{LeafAsksForMembers}
use Rattle.step_examples.proofs.PlainRows.{rows_more}
use Rattle.step_examples.proofs.plain.rows_of.Goals as goal

pub loop-place-preserved : goal.loop-place-preserved
loop-place-preserved c =
    λ leaves.
    let nodes = c.args.nodes.now in
    let rows = c.loop-place.rows in
    let place = c.loop-place.place in
    let n = c.index-nodes-place.result in
    let within : place < length rows = omega (arith, c.index-nodes-place.array_long) in
    let before = c.loop-place.invariant leaves in
    let leaf : LeafAsksForMembers n =
    subst LeafAsksForMembers (sym c.index-nodes-place.is)
    (leaves place n c.loop-place-test.true) in
    rows_more c.args.facts.now nodes rows n c.row_of.result place c.requires.table
    c.loop-place-test.true c.index-nodes-place.is within before
    (c.row_of.ensures (formula_at nodes) (number_at nodes place) before leaf)
