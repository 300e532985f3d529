use Rattle.std.proofs.Common.{arith, refl, ◌+◌, length}
use Rattle.step_examples.proofs.PlainRows.{all_part}
use Rattle.step_examples.proofs.plain.since.Goals as goal

pub returns-then-all : goal.returns-then-all
returns-then-all c =
    let row = c.args.f.now in (
      λ _. (
        c.loop-place.place,
        c.loop-place-test.true,
        (
          c.if-g-place.true,
          λ l above below.
              (all_part row (c.loop-place.place + 1) (length row) (omega arith)).0
              (c.all.ensures.0 c.if-all.true) l (omega arith) below,
        ),
      ),
      λ _. refl,
    )
