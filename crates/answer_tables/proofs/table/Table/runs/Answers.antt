use Rattle.std.proofs.Common.{◌≡◌, ◌+◌, ◌-◌, ◌<◌, ◌≤◌, ◌++◌, ◌∷◌, ℕ, List, [], length, sym}
use Rattle.std.proofs.Common.{◌∙◌, ap, subst, arith}
use Rattle.std.specs.Prelude.{slice_index_or}
use Rattle.std.proofs.lemmas.List.{get_or_default}
use Rattle.answer_tables.specs.declared.run.Run.{Run}
use Rattle.answer_tables.proofs.Runs.{run_at}
use Rattle.answer_tables.proofs.CountedRuns.{Count, Growing, growing_start, growing_same}
use Rattle.answer_tables.proofs.CountedRuns.{growing_next, growing_end, growing_none}
use Rattle.answer_tables.proofs.table.Table.runs.Goals as goal
use Rattle.answer_tables.proofs.table.Table.runs.Goals.{then-run-link+in_ok-push_run}
use Rattle.answer_tables.proofs.table.Table.runs.Goals.{else-run-link}

pub returns-then-count-eq0 : goal.returns-then-count-eq0
returns-then-count-eq0 c =
    let runs = c.self.inside.ranks.value in
    let none : length runs ≡ 0 =
    omega (
      arith,
      c.len-count.ensures,
      c.if-count-eq0.true,
      ap (λ (rs : List Run). length rs) c.deref.ensures,
    ) in
    growing_none c.self.inside.slots c.self.inside.arity c.self.inside.links.items runs
    c.self.invariant c.args.self.now c.self.view_is c.new-runs.result.items
    c.new-runs.ensures.items none

pub loop-place-init : goal.loop-place-init
loop-place-init c =
    let runs = c.self.inside.ranks.value in
    let links = c.self.inside.links.items in
    let some : 0 < length runs = (let test = c.if-count-eq0.false in
    omega (arith, test, c.len-count.ensures, ap (λ (rs : List Run). length rs) c.deref.ensures)) in
    let is : run_at runs 0 ≡ c.run-first.result =
    sym (c.run-first.ensures ∙ ap (λ (rs : List Run). run_at rs 0) c.deref-2.ensures) in
    subst (λ (r : Run). Growing c.self.inside.slots c.self.inside.arity links runs
    c.new-runs.result.items r.link 0 r.end 1) is
    (growing_start c.self.inside.slots c.self.inside.arity links runs c.self.invariant
    c.new-runs.result.items c.new-runs.ensures.items some)

pub loop-place-preserved : goal.loop-place-preserved
loop-place-preserved c =
    let slots = c.self.inside.slots in
    let arity = c.self.inside.arity in
    let runs = c.self.inside.ranks.value in
    let links = c.self.inside.links.items in
    let place = c.loop-place.place in
    let link = c.loop-place.link in
    let begin = c.loop-place.begin in
    let end = c.loop-place.end in
    let run = c.run-run.result in
    let inside : place < length runs =
    omega (
      arith,
      c.loop-place-test.true,
      c.len-count.ensures,
      ap (λ (rs : List Run). length rs) c.deref.ensures,
    ) in
    let is : run_at runs place ≡ run =
    sym (c.run-run.ensures ∙ ap (λ (rs : List Run).
    run_at rs place) c.deref-in-loop-place.ensures) in
    elim c.if-run-link.branch [
      | then-run-link+in_ok-push_run w ↦
          let copied : w.index.result.now ≡ slice_index_or links link [] =
          w.index.ensures
          ∙ get_or_default links link w.index.result.now []
          c.loop-place.invariant.named in
          let more : w.push_run.new.runs.items
          ≡ c.loop-place.runs.items ++ (end - begin, slice_index_or links link []) ∷ [] =
          w.in_ok-push_run.ensures ∙ ap (λ (x : List ℕ).
          c.loop-place.runs.items ++ (end - begin, x) ∷ []) copied in
          let next : Growing slots arity links runs w.push_run.new.runs.items run.link end run.end
          (place + 1) =
          subst (λ (r : Run). Growing slots arity links runs w.push_run.new.runs.items r.link end
          r.end (place + 1)) is
          (growing_next slots arity links runs c.self.invariant c.loop-place.runs.items
          w.push_run.new.runs.items link begin end place c.loop-place.invariant inside
          (λ same. w.if-run-link.true (ap (λ (r : Run). r.link) (sym is) ∙ same)) more) in
          subst (λ (xs : List Count). Growing slots arity links runs xs c.if-run-link.link
          c.if-run-link.begin run.end (place + 1)) (ap (λ v. v.items) (sym w.runs-is))
          (subst (λ (l : ℕ). Growing slots arity links runs w.push_run.new.runs.items l
          c.if-run-link.begin run.end (place + 1)) (sym w.link-is)
          (subst (λ (b : ℕ). Growing slots arity links runs w.push_run.new.runs.items run.link b
          run.end (place + 1)) (sym w.begin-is) next))
      | else-run-link w ↦
          let same : (run_at runs place).link ≡ link =
          ap (λ (r : Run). r.link) is ∙ w.if-run-link.false in
          let next : Growing slots arity links runs c.loop-place.runs.items link begin run.end
          (place + 1) =
          subst (λ (r : Run). Growing slots arity links runs c.loop-place.runs.items link begin
          r.end (place + 1)) is
          (growing_same slots arity links runs c.self.invariant c.loop-place.runs.items link begin
          end place c.loop-place.invariant inside same) in
          subst (λ (xs : List Count). Growing slots arity links runs xs c.if-run-link.link
          c.if-run-link.begin run.end (place + 1)) (ap (λ v. v.items) (sym w.runs-is))
          (subst (λ (l : ℕ). Growing slots arity links runs c.loop-place.runs.items l
          c.if-run-link.begin run.end (place + 1)) (sym w.link-is)
          (subst (λ (b : ℕ). Growing slots arity links runs c.loop-place.runs.items link b
          run.end (place + 1)) (sym w.begin-is) next))
    ]

pub returns : goal.returns
returns c =
    let slots = c.self.inside.slots in
    let arity = c.self.inside.arity in
    let runs = c.self.inside.ranks.value in
    let links = c.self.inside.links.items in
    let place = c.loop-place.place in
    let link = c.loop-place.link in
    let begin = c.loop-place.begin in
    let end = c.loop-place.end in
    let past : length runs ≤ place =
    (let test = c.loop-place-test.false in
    omega (
      arith,
      test,
      c.len-count.ensures,
      ap (λ (rs : List Run). length rs) c.deref.ensures,
    )) in
    let copied : c.index-2.result.now ≡ slice_index_or links link [] =
    c.index-2.ensures
    ∙ get_or_default links link c.index-2.result.now [] c.loop-place.invariant.named in
    growing_end slots arity links runs c.self.invariant c.args.self.now c.self.view_is
    c.loop-place.runs.items c.push_run-2.new.runs.items link begin end place
    c.loop-place.invariant past
    (c.in_ok-push_run-2.ensures ∙ ap (λ (x : List ℕ).
    c.loop-place.runs.items ++ (end - begin, x) ∷ []) copied)
