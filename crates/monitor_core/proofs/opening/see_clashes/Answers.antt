use Rattle.std.proofs.Common.{take, subst, arith}
use Rattle.std.specs.List.{All}
use Rattle.std.proofs.lemmas.List.{take_all}
use Rattle.consistency.specs.Prepared.{cores_of}
use Rattle.saturate.specs.Sight.{SeesUnion, KeepsSight}
use Rattle.saturate.proofs.Sighted.{kept_both}
use Rattle.monitor_core.proofs.Seeing.{cores_kept, core_more}
use Rattle.monitor_core.proofs.opening.see_clashes.Goals as goal

pub loop-place-preserved : goal.loop-place-preserved
loop-place-preserved c =
    let cores = cores_of c.args.clashes.now in
    let i = c.loop-place.place in
    let old = c.loop-place.sight in
    let new = c.see.new.sight in
    let kept : KeepsSight old new = c.in_ok-see.ensures.kept in (
      kept_both c.args.sight.now old new kept c.loop-place.invariant.0,
      core_more new cores i c.core.result.now c.core.ensures
          (cores_kept old new kept (take i cores) c.loop-place.invariant.1)
          c.in_ok-see.ensures.seen,
    )

pub returns-clause-seen : goal.returns-clause-seen
returns-clause-seen c = subst (All (SeesUnion c.loop-place.sight))
    (take_all c.loop-place.place (cores_of c.args.clashes.now)
    (omega (arith, c.loop-place-test.false, c.count-place-end.ensures))) c.loop-place.invariant.1
