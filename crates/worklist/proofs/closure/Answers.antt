use Rattle.std.proofs.Common.{◌≡◌, arith, refl, sym, ◌∙◌, ap, Err}
use Rattle.std.proofs.lemmas.Result.{err_from_is_err_and}
use Rattle.worklist.specs.declared.ClosureFault.TheVariants.{TooMany}
use Rattle.worklist.proofs.Closed.{ReachesMore-none, ReachesMore-found, sound_step, Progress-step}
use Rattle.worklist.proofs.Closed.{IsClosure-all_done, not_more}
use Rattle.worklist.proofs.closure.Goals as goal

pub returns-then-room-eq0-clause-many : goal.returns-then-room-eq0-clause-many
returns-then-room-eq0-clause-many g c h =
    ReachesMore-none _ c.args.start c.args.room c.if-room-eq0.true

pub returns-then-place-len-clause-found : goal.returns-then-place-len-clause-found
returns-then-place-len-clause-found g c =
    IsClosure-all_done _ _ c.requires.exact c.args.start c.loop-place.place c.loop-place.found.keys
    c.loop-place.invariant.0
    (omega (arith, c.len.ensures.len)) c.len.ensures.unique

pub returns-in_err-expand-clause-many : goal.returns-in_err-expand-clause-many
returns-in_err-expand-clause-many g c h =
    let p = err_from_is_err_and c.from_residual-in_err-expand.result
    c.from_residual-in_err-expand.ensures.1 in
    let passed = sym p.1 ∙ h in
    let same : p.0 ≡ TooMany = cc passed in
    ReachesMore-found _ _ c.requires.exact c.args.start c.expand.new.found.keys c.args.room
    c.expand.ensures.distinct
    (sound_step _ c.args.start c.loop-place.place _ _ c.loop-place.invariant.0
    c.expand.ensures.grows)
    (c.in_err-expand.ensures.many (ap Err (sym p.2 ∙ same)))

pub loop-place-preserved : goal.loop-place-preserved
loop-place-preserved g c = (
  Progress-step _ c.args.start c.loop-place.place _ _ c.loop-place.invariant.0
      c.expand.ensures.grows c.in_ok-expand.ensures.done,
  c.in_ok-expand.ensures.emptied,
  c.in_ok-expand.ensures.few,
  refl,
  c.expand.ensures.distinct,
)

pub returns-clause-found : goal.returns-clause-found
returns-clause-found g c =
    IsClosure-all_done _ _ c.requires.exact c.args.start c.loop-place.place c.loop-place.found.keys
    c.loop-place.invariant.0
    (omega arith) c.loop-place.invariant.4

pub returns-then-place-len-clause-not_more : goal.returns-then-place-len-clause-not_more
returns-then-place-len-clause-not_more g c =
    not_more _ g.S.PartialEq.eq g.met.S.Eq.laws c.requires.exact c.args.start
    c.loop-place.found.keys c.args.room
    (IsClosure-all_done _ _ c.requires.exact c.args.start c.loop-place.place c.loop-place.found.keys
    c.loop-place.invariant.0
    (omega (arith, c.len.ensures.len)) c.len.ensures.unique)
    (omega arith)

pub returns-clause-not_more : goal.returns-clause-not_more
returns-clause-not_more g c =
    not_more _ g.S.PartialEq.eq g.met.S.Eq.laws c.requires.exact c.args.start
    c.loop-place.found.keys c.args.room
    (IsClosure-all_done _ _ c.requires.exact c.args.start c.loop-place.place c.loop-place.found.keys
    c.loop-place.invariant.0
    (omega arith) c.loop-place.invariant.4)
    (omega arith)

pub expand-requires-clause-valid : goal.expand-requires-clause-valid
expand-requires-clause-valid g c = λ k d below.
    c.requires.valid _ (c.loop-place.invariant.0.sound k d below)
