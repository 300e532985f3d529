use Rattle.std.proofs.Common.{arith, refl, ◌≤◌, length}
use Rattle.step_examples.proofs.PlainRows.{all_front}
use Rattle.step_examples.proofs.plain.until.Goals as goal

pub returns-then-all : goal.returns-then-all
returns-then-all c =
    let within : c.loop-place.place ≤ length c.args.f.now = omega arith in (
      λ _. (
        c.loop-place.place,
        c.loop-place-test.true,
        (
          c.if-g-place.true,
          (all_front c.args.f.now c.loop-place.place within).0
              (c.all.ensures.0 c.if-all.true),
        ),
      ),
      λ _. refl,
    )
