use Rattle.std.proofs.Common.{◌≡◌, ◌-◌, ◌<◌, ◌++◌, ℕ, List, length, replicate, take_all, vec_len}
use Rattle.std.proofs.Common.{rules, sym, ◌∙◌, ap, subst, arith}
use Rattle.answer_tables.specs.declared.run.Run.{Run}
use Rattle.answer_tables.specs.Runs.{RiseFrom, Extended, unit_runs}
use Rattle.answer_tables.proofs.UnitRuns.{whole_rise, end_unit, rise_unit, Extended-units}
use Rattle.answer_tables.proofs.Runs.{run_at}
use Rattle.answer_tables.proofs.Renamings.{Mapping-start, Mapping-step, Mapping-above, AreAlike-end}
use Rattle.answer_tables.proofs.Renamings.{AreAlike-same}
use Rattle.answer_tables.proofs.ranking.Ranking.to_bytes.Goals as goal

pub returns-in-Some : goal.returns-in-Some
returns-in-Some c =
    let copied : c.extend_from_slice.new.self.items ≡ c.in-Some.own.now =
    c.in_ok-extend_from_slice.ensures.items ∙ ap (λ (ns : List ℕ).
    ns ++ c.in-Some.own.now) c.new-bytes.ensures.items in
    let is : c.args.self.now ≡ unit_runs 0 c.extend_from_slice.new.self.items =
    sym c.in-Some.ensures ∙ ap (unit_runs 0) (sym copied) in
    AreAlike-same c.args.self.now (unit_runs 0 c.extend_from_slice.new.self.items) is
    (subst (RiseFrom 0) (sym is) (rise_unit c.extend_from_slice.new.self.items))

pub loop-place-init : goal.loop-place-init
loop-place-init c =
    Mapping-start (λ (k : ℕ). k) c.args.self.now (unit_runs 0 c.new-bytes.result.items)
    (subst (RiseFrom 0) c.self.view_is
    (whole_rise c.self.inside.runs.items c.self.inside.bytes.items c.self.invariant.0))
    (ap (unit_runs 0) c.new-bytes.ensures.items)

pub loop-place-preserved : goal.loop-place-preserved
loop-place-preserved c =
    let bytes = c.loop-place.bytes.items in
    let run : Run = run_at c.args.self.now c.loop-place.place in
    let is : c.run-run.result ≡ run = c.run-run.ensures in
    let within = c.loop-place-test.true in
    let many = c.len-place-end.ensures in
    let above = Mapping-above (λ (k : ℕ). k) c.args.self.now (unit_runs 0 bytes) c.loop-place.place
    c.loop-place.invariant (omega (arith, within, many)) in
    let less : length bytes < run.end = omega (arith, above, end_unit bytes) in
    let len : vec_len c.loop-place.bytes ≡ length bytes = search rules in
    let filled : c.resize.new.self.items ≡ bytes ++ replicate (run.end - length bytes) run.link =
    c.in_ok-resize.ensures.items
    ∙ ap (λ (ns : List ℕ). ns ++ replicate (c.run-run.result.end - vec_len c.loop-place.bytes)
    c.run-run.result.link) (take_all c.run-run.result.end bytes
    (omega (arith, less, ap (λ (r : Run). r.end) is)))
    ∙ ap (λ (r : Run). bytes ++ replicate (r.end - vec_len c.loop-place.bytes) r.link) is
    ∙ ap (λ (n : ℕ). bytes ++ replicate (run.end - n) run.link) len in
    Mapping-step (λ (k : ℕ). k) c.args.self.now (unit_runs 0 bytes)
    (unit_runs 0 c.resize.new.self.items) c.loop-place.place c.loop-place.invariant
    (omega (arith, within, many))
    (subst (λ (ns : List ℕ). Extended (unit_runs 0 bytes) run (unit_runs 0 ns)) (sym filled)
    (Extended-units bytes run.link run.end less))

pub returns : goal.returns
returns c = AreAlike-end c.args.self.now (unit_runs 0 c.loop-place.bytes.items) c.loop-place.place
    c.loop-place.invariant (omega (arith, c.loop-place-test.false, c.len-place-end.ensures))
