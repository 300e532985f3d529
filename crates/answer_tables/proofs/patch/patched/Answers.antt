use Rattle.std.proofs.Common.{◌≡◌, ◌<◌, ◌≤◌, ℕ, length, sym, ◌∙◌, ap, subst, arith}
use Rattle.answer_tables.specs.declared.run.Run.{Run}
use Rattle.answer_tables.specs.Runs.{end_from, link_at}
use Rattle.answer_tables.specs.Patching.{IsPatched}
use Rattle.answer_tables.proofs.Runs.{run_at, Rest-here, Rest-above, Rest-next, Rest-within}
use Rattle.answer_tables.proofs.Runs.{Rest-end}
use Rattle.answer_tables.proofs.Patches.{IsPatched-kept, IsPatched-written}
use Rattle.answer_tables.proofs.patch.patched.Goals as goal
use Rattle.answer_tables.proofs.patch.patched.Goals.{then-joints-run, else-joints-run}

pub write-requires-clause-within : goal.write-requires-clause-within
write-requires-clause-within c =
    let inside : c.loop-place.place < length c.args.ranks.now =
    omega (arith, c.loop-place-test.true, c.len-place-end.ensures) in
    let within = Rest-within c.args.ranks.now c.loop-place.place c.loop-place.start
    (end_from 0 c.args.ranks.now) c.loop-place.invariant.rest inside in
    omega (
      arith,
      within,
      c.requires.ends,
      c.loop-place.invariant.patched.many,
      ap (λ (r : Run).
          r.end) c.run-run.ensures,
    )

pub loop-place-preserved : goal.loop-place-preserved
loop-place-preserved c =
    let old = c.args.bytes.now in
    let runs = c.args.ranks.now in
    let joints = c.args.joints.now in
    let places = c.args.places.now in
    let i = c.loop-place.place in
    let start = c.loop-place.start in
    let total : ℕ = end_from 0 runs in
    let end = c.run-run.result.end in
    let number = c.run-run.result.link in
    let inside : i < length runs = omega (arith, c.loop-place-test.true, c.len-place-end.ensures) in
    let end_is : (run_at runs i).end ≡ end = ap (λ (r : Run). r.end) (sym c.run-run.ensures) in
    let link_is : (run_at runs i).link ≡ number =
    ap (λ (r : Run). r.link) (sym c.run-run.ensures) in
    let above = Rest-above runs i start total c.loop-place.invariant.rest inside in
    let order : start ≤ end = omega (arith, above, end_is) in
    let here : (n : ℕ) → start ≤ n → n < end → link_at runs n ≡ number = λ n from below.
    Rest-here runs i start total n c.loop-place.invariant.rest inside from
    (omega (arith, below, end_is)) ∙ link_is in
    record {
      rest = Rest-next runs i start total end c.loop-place.invariant.rest inside end_is;
      patched = elim c.if-joints-run.branch [
        | then-joints-run w ↦
            subst (λ v. IsPatched old runs joints c.args.usual places end v.items) (sym w.new-is)
            (IsPatched-written old c.loop-place.new.items w.write.new.bytes.items runs joints
            c.args.usual places start end number c.loop-place.invariant.patched order here
            w.write.ensures w.if-joints-run.true)
        | else-joints-run w ↦
            IsPatched-kept old c.loop-place.new.items c.if-joints-run.new.items runs joints
            c.args.usual places start end number c.loop-place.invariant.patched order here
            (ap (λ v. v.items) w.new-is) w.if-joints-run.false
      ];
    }

pub returns : goal.returns
returns c =
    let runs = c.args.ranks.now in
    let past : length runs ≤ c.loop-place.place =
    omega (arith, c.loop-place-test.false, c.len-place-end.ensures) in
    let done : c.loop-place.start ≡ length c.args.bytes.now =
    Rest-end runs c.loop-place.place c.loop-place.start (end_from 0 runs)
    c.loop-place.invariant.rest past ∙ c.requires.ends in
    subst (λ (e : ℕ). IsPatched c.args.bytes.now runs c.args.joints.now c.args.usual
    c.args.places.now e c.loop-place.new.items) done c.loop-place.invariant.patched
