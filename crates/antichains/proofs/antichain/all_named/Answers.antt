use Rattle.std.proofs.Common.{[], refl, ◌<◌, arith, drop-cons, add-one, length}
use Rattle.std.proofs.lemmas.List.{drop_all}
use Rattle.antichains.proofs.Antichains.{narrowed_step, Has-unnamed}
use Rattle.antichains.proofs.antichain.all_named.Goals as goal

pub loop-value-preserved : goal.loop-value-preserved
loop-value-preserved c v l =
    let within : c.loop-value.value-index < length c.args.values.now = omega arith in
    narrowed_step c.loop-value.family _ c.args.values.now _ c.loop-value.value-index
    c.loop-value.rest c.args.set v
    (rw (add-one, drop-cons c.args.values.now c.loop-value.value-index (record { words = [] }))
    refl) (c.narrowed-family.ensures.at v l) (c.loop-value.invariant v l)

pub returns-else-rest-eq0 : goal.returns-else-rest-eq0
returns-else-rest-eq0 c =
    Has-unnamed c.loop-value.family _ c.args.values.now _ c.loop-value.rest c.args.set
    (drop_all c.loop-value.value-index c.args.values.now (omega arith)) c.if-rest-eq0.false
    c.loop-value.invariant c.none.ensures
