use Rattle.std.proofs.Common.{◌≡◌, ◌+◌, ◌-◌, ◌/◌, ◌<◌, ◌≤◌, ℕ, length, arith, inl, inr, subst, sym}
use Rattle.std.proofs.Common.{◌∙◌}
use Rattle.std.proofs.lemmas.Bool.{cases_lt}
use Rattle.answer_tables.proofs.Runs.{run_at, ends_rise, link_at-found, end_from-below}
use Rattle.answer_tables.proofs.UnitRuns.{end_last}
use Rattle.answer_tables.proofs.run.run_of.Goals as goal

pub loop-low-preserved-then-runs-middle : goal.loop-low-preserved-then-runs-middle
loop-low-preserved-then-runs-middle c =
    let runs = c.args.runs.now in
    let low = c.loop-low.low in
    let middle : ℕ = low + (c.loop-low.high - low) / 2 in
    let test = c.loop-low-test.true in
    let inside : middle < length runs = omega (arith, test, c.loop-low.invariant.within) in
    let past : (run_at runs middle).end ≤ c.args.rank = c.if-runs-middle.true in
    record {
      order = omega (arith, test);
      within = c.loop-low.invariant.within;
      before = λ m early. let up =
          ends_rise 0 runs m middle c.requires.rise (omega (arith, early)) inside in
          omega (arith, up, past);
      after = c.loop-low.invariant.after;
    }

pub bounds-runs-low : goal.bounds-runs-low
bounds-runs-low c =
    let runs = c.args.runs.now in
    elim (cases_lt c.loop-low.low (length runs)) [
      | inl less ↦ less
      | inr past ↦ let end = end_from-below 0 runs c.args.rank (omega arith) (λ m within.
          c.loop-low.invariant.before m (omega (arith, within, past))) in
          absurd (omega (arith, end, c.requires.within))
    ]

pub returns : goal.returns
returns c =
    let runs = c.args.runs.now in
    let past = c.loop-low-test.false in
    let inside : c.loop-low.low < length runs = elim (cases_lt c.loop-low.low (length runs)) [
      | inl less ↦ less
      | inr beyond ↦ let end = end_from-below 0 runs c.args.rank (omega arith) (λ m within.
          c.loop-low.invariant.before m (omega (arith, within, beyond))) in
          absurd (omega (arith, end, c.requires.within))
    ] in
    let same : c.loop-low.high ≡ c.loop-low.low = omega (arith, past, c.loop-low.invariant.order) in
    let ahead : c.args.rank < (run_at runs c.loop-low.low).end =
    subst (λ (k : ℕ). c.args.rank < (run_at runs k).end) same
    (c.loop-low.invariant.after (omega (arith, same, inside))) in
    record {
      link = sym (link_at-found 0 runs c.args.rank c.loop-low.low inside c.loop-low.invariant.before
          ahead);
      ahead = ahead;
      within = subst (λ (e : ℕ). (run_at runs c.loop-low.low).end ≤ e)
          (sym (end_last 0 runs (record { end = 0; link = 0 }) (omega (arith, inside))))
          (ends_rise 0 runs c.loop-low.low (length runs - 1) c.requires.rise (omega (arith, inside))
          (omega (arith, inside)));
      same = λ n from below.
          link_at-found 0 runs n c.loop-low.low inside (λ m early. let up =
          c.loop-low.invariant.before m early in omega (arith, up, from)) below
          ∙ sym (link_at-found 0 runs c.args.rank c.loop-low.low inside c.loop-low.invariant.before
          ahead);
    }
