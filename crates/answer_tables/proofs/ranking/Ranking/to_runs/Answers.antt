use Rattle.std.proofs.Common.{◌<◌, ℕ, sym, subst, arith}
use Rattle.answer_tables.specs.declared.run.Run.{Run}
use Rattle.answer_tables.specs.Runs.{RiseFrom, Extended, end_from}
use Rattle.answer_tables.proofs.UnitRuns.{whole_rise}
use Rattle.answer_tables.proofs.Runs.{run_at}
use Rattle.answer_tables.proofs.Renamings.{Mapping-start, Mapping-step, Mapping-above, AreAlike-end}
use Rattle.answer_tables.proofs.ranking.Ranking.to_runs.Goals as goal

pub loop-place-init : goal.loop-place-init
loop-place-init c =
    Mapping-start (λ (k : ℕ). k) c.args.self.now c.new-runs.result.items
    (subst (RiseFrom 0) c.self.view_is
    (whole_rise c.self.inside.runs.items c.self.inside.bytes.items c.self.invariant.0))
    c.new-runs.ensures.items

pub extend-requires-clause-more : goal.extend-requires-clause-more
extend-requires-clause-more c =
    let above = Mapping-above (λ (k : ℕ). k) c.args.self.now c.loop-place.runs.items
    c.loop-place.place c.loop-place.invariant
    (omega (arith, c.loop-place-test.true, c.len-place-end.ensures)) in
    subst (λ (r : Run). end_from 0 c.loop-place.runs.items < r.end) (sym c.run.ensures) above

pub loop-place-preserved : goal.loop-place-preserved
loop-place-preserved c =
    let extended : Extended c.loop-place.runs.items (run_at c.args.self.now c.loop-place.place)
    c.extend.new.runs.items =
    subst (λ (r : Run). Extended c.loop-place.runs.items r c.extend.new.runs.items)
    c.run.ensures c.in_ok-extend.ensures.ok in
    Mapping-step (λ (k : ℕ). k) c.args.self.now c.loop-place.runs.items c.extend.new.runs.items
    c.loop-place.place c.loop-place.invariant
    (omega (arith, c.loop-place-test.true, c.len-place-end.ensures)) extended

pub returns : goal.returns
returns c = AreAlike-end c.args.self.now c.loop-place.runs.items c.loop-place.place
    c.loop-place.invariant (omega (arith, c.loop-place-test.false, c.len-place-end.ensures))
