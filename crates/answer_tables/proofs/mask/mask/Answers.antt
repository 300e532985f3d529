use Rattle.std.proofs.Common.{◌≡◌, ℕ, ◌<◌, ◌≤◌, length, ◌∙◌, sym, ap, subst, refl, arith}
use Rattle.answer_tables.specs.declared.run.Run.{Run}
use Rattle.answer_tables.specs.Runs.{link_at, end_from}
use Rattle.answer_tables.specs.Masking.{IsMasked}
use Rattle.answer_tables.proofs.Runs.{run_at, Rest-start, Rest-here, Rest-above, Rest-next}
use Rattle.answer_tables.proofs.Runs.{Rest-within, Rest-end}
use Rattle.answer_tables.proofs.Masks.{IsMasked-start, IsMasked-hidden, IsMasked-shown}
use Rattle.answer_tables.proofs.mask.mask.Goals as goal
use Rattle.answer_tables.proofs.mask.mask.Goals.{then-link-usual+in_ok-extend}
use Rattle.answer_tables.proofs.mask.mask.Goals.{else-link-usual+in_ok-copy_up_to}

pub loop-place-init : goal.loop-place-init
loop-place-init c = record {
  rest = Rest-start c.args.b.now (end_from 0 c.args.b.now) c.requires.rise refl;
  masked = IsMasked-start c.args.a.now c.args.b.now c.new-runs.result.items c.args.usual
      c.new-runs.ensures.items;
}

pub extend-requires-clause-rise : goal.extend-requires-clause-rise
extend-requires-clause-rise c = c.loop-place.invariant.masked.rise

pub extend-requires-clause-more : goal.extend-requires-clause-more
extend-requires-clause-more c =
    let inside : c.loop-place.place < length c.args.b.now =
    omega (arith, c.loop-place-test.true, c.len-place-end.ensures) in
    let above = Rest-above c.args.b.now c.loop-place.place c.loop-place.start
    (end_from 0 c.args.b.now) c.loop-place.invariant.rest inside in
    omega (
      arith,
      above,
      c.loop-place.invariant.masked.ends,
      ap (λ (r : Run).
          r.end) c.run-end.ensures,
    )

pub copy_up_to-requires-clause-rise : goal.copy_up_to-requires-clause-rise
copy_up_to-requires-clause-rise c = c.loop-place.invariant.masked.rise

pub copy_up_to-requires-clause-start : goal.copy_up_to-requires-clause-start
copy_up_to-requires-clause-start c = c.loop-place.invariant.masked.ends

pub copy_up_to-requires-clause-ahead : goal.copy_up_to-requires-clause-ahead
copy_up_to-requires-clause-ahead c =
    let inside : c.loop-place.place < length c.args.b.now =
    omega (arith, c.loop-place-test.true, c.len-place-end.ensures) in
    let above = Rest-above c.args.b.now c.loop-place.place c.loop-place.start
    (end_from 0 c.args.b.now) c.loop-place.invariant.rest inside in
    omega (arith, above, ap (λ (r : Run). r.end) c.run-end.ensures)

pub copy_up_to-requires-clause-within : goal.copy_up_to-requires-clause-within
copy_up_to-requires-clause-within c =
    let inside : c.loop-place.place < length c.args.b.now =
    omega (arith, c.loop-place-test.true, c.len-place-end.ensures) in
    let within = Rest-within c.args.b.now c.loop-place.place c.loop-place.start
    (end_from 0 c.args.b.now) c.loop-place.invariant.rest inside in
    omega (arith, within, c.requires.ends, ap (λ (r : Run). r.end) c.run-end.ensures)

pub loop-place-preserved : goal.loop-place-preserved
loop-place-preserved c =
    let a = c.args.a.now in
    let b = c.args.b.now in
    let i = c.loop-place.place in
    let total : ℕ = end_from 0 b in
    let end = c.run-end.result.end in
    let inside : i < length b = omega (arith, c.loop-place-test.true, c.len-place-end.ensures) in
    let end_is : (run_at b i).end ≡ end = ap (λ (r : Run). r.end) (sym c.run-end.ensures) in
    let link_is : (run_at b i).link ≡ c.run-end.result.link =
    ap (λ (r : Run). r.link) (sym c.run-end.ensures) in
    let here : (n : ℕ) → c.loop-place.start ≤ n → n < end → link_at b n ≡ c.run-end.result.link =
    λ n from below.
    Rest-here b i c.loop-place.start total n c.loop-place.invariant.rest inside from
    (omega (arith, below, end_is)) ∙ link_is in
    record {
      rest = Rest-next b i c.loop-place.start total end c.loop-place.invariant.rest inside end_is;
      masked = elim c.if-link-usual.branch [
        | then-link-usual+in_ok-extend w ↦
            subst (λ v. IsMasked a b c.args.usual end v.items) (sym w.runs-is)
            (IsMasked-hidden a b c.loop-place.runs.items w.extend.new.runs.items c.args.usual
            c.loop-place.start end c.run-end.result.link c.loop-place.invariant.masked here
            w.in_ok-extend.ensures.ok w.if-link-usual.true)
        | else-link-usual+in_ok-copy_up_to w ↦
            subst (λ v. IsMasked a b c.args.usual end v.items) (sym w.runs-is)
            (IsMasked-shown a b c.loop-place.runs.items w.copy_up_to.new.runs.items c.args.usual
            c.loop-place.start end c.run-end.result.link c.loop-place.invariant.masked here
            w.in_ok-copy_up_to.ensures w.if-link-usual.false)
      ];
    }

pub from_runs-requires : goal.from_runs-requires
from_runs-requires c = c.loop-place.invariant.masked.rise

pub returns : goal.returns
returns c =
    let past : length c.args.b.now ≤ c.loop-place.place =
    omega (arith, c.loop-place-test.false, c.len-place-end.ensures) in
    let done : c.loop-place.start ≡ end_from 0 c.args.a.now =
    Rest-end c.args.b.now c.loop-place.place c.loop-place.start (end_from 0 c.args.b.now)
    c.loop-place.invariant.rest past ∙ sym c.requires.ends in
    subst (λ (e : ℕ). IsMasked c.args.a.now c.args.b.now c.args.usual e c.from_runs.result) done
    (subst (IsMasked c.args.a.now c.args.b.now c.args.usual c.loop-place.start)
    (sym c.from_runs.ensures) c.loop-place.invariant.masked)
