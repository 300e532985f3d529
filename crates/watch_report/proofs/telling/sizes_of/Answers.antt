use Rattle.std.proofs.Common.{◌∷◌, [], arith, length-append}
use Rattle.watch_report.specs.Task.{own_setting}
use Rattle.watch_report.proofs.Sizes.{sizes_more, size_is_own}
use Rattle.watch_report.proofs.telling.sizes_of.Goals as goal

pub loop-place-preserved : goal.loop-place-preserved
loop-place-preserved c =
    let setting = own_setting c.args.monitor.now in
    rw c.in_ok-push.ensures.items (record {
      many = omega (
        arith,
        c.loop-place.invariant.many,
        length-append c.loop-place.sizes.items
            (c.in_ok-size.size ∷ []),
      );
      counted = c.loop-place.invariant.counted;
      sizes = λ history stands. sizes_more setting history setting.queries c.loop-place.place
          c.loop-place.sizes.items c.in_ok-size.size
          (omega (arith, c.loop-place-test.true, c.loop-place.invariant.counted))
          (c.loop-place.invariant.sizes history stands) (λ query is.
          size_is_own c.args.monitor.now history query c.in_ok-size.size stands
          (c.in_ok-size.ensures.kept history query stands is));
    })
