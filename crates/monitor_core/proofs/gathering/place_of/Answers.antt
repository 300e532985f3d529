use Rattle.std.proofs.Common.{length, refl}
use Rattle.std.proofs.lemmas.Option.{slice_get_read}
use Rattle.monitor_core.proofs.gathering.place_of.Goals as goal

pub returns-then-asks : goal.returns-then-asks
returns-then-asks c =
    let leaves = c.args.leaves.now in
    let leaf = c.index-leaves-place.result in (
      leaf,
      slice_get_read leaves (length leaves) c.loop-place.place leaf refl c.loop-place-test.true
          c.index-leaves-place.is,
      c.asks.ensures.0 c.if-asks.true,
    )
