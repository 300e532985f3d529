use Rattle.std.proofs.Common.{◌≡◌, ◌+◌, ◌^◌, ◌≤◌, ◌++◌, ◌∷◌, [], ℕ, List, length, take, rules, sym}
use Rattle.std.proofs.Common.{◌∙◌, ap, subst, arith}
use Rattle.std.proofs.lemmas.List.{take_more, take_all}
use Rattle.std.proofs.lemmas.Result.{IfOk-weaker}
use Rattle.answer_tables.specs.Counts.{count_of}
use Rattle.answer_tables.specs.Table.{Antichains, AreUsed, view_of}
use Rattle.answer_tables.proofs.Counting.{Count, Counted, Counted-more, count_of-take}
use Rattle.answer_tables.proofs.Counting.{count_of-push, AreUsed-counted, at_counted}
use Rattle.answer_tables.proofs.counts.from_runs.Goals as goal

pub overflow_add-end : goal.overflow_add-end
overflow_add-end c =
    let runs = c.args.runs.now in
    let i = c.loop-run.run-index in
    let item : Count = c.run-item.result in
    let within = c.loop-run-test.true in
    let longer : take (i + 1) runs ≡ take i runs ++ item ∷ [] =
    take_more runs i item within ∙ ap (λ (x : Count).
    take i runs ++ x ∷ []) (sym c.run-item.is) in
    let total : count_of (take (i + 1) runs) ≡ count_of (take i runs) + item.0 =
    ap count_of longer ∙ count_of-push (take i runs) item in
    omega (
      arith,
      count_of-take runs (i + 1),
      total,
      c.loop-run.invariant.total,
      c.requires.whole,
      c.requires.few,
    )

pub loop-run-preserved : goal.loop-run-preserved
loop-run-preserved c =
    let runs = c.args.runs.now in
    let i = c.loop-run.run-index in
    let item : Count = c.run-item.result in
    let within = c.loop-run-test.true in
    let links = c.loop-run.links.items in
    let longer : take (i + 1) runs ≡ take i runs ++ item ∷ [] =
    take_more runs i item within ∙ ap (λ (x : Count).
    take i runs ++ x ∷ []) (sym c.run-item.is) in
    let some : 1 ≤ item.0 = subst (λ (x : Count).
    1 ≤ x.0) (sym c.run-item.is) (c.requires.some i item within) in
    let len : c.len-link.result ≡ length links = search rules in
    subst (λ (front : List Count). Counted front c.push.new.self.items
    c.push-in-loop-run.new.self.items (c.loop-run.end + item.0)) (sym longer)
    (Counted-more (take i runs) links c.push.new.self.items c.loop-run.ends.items
    c.push-in-loop-run.new.self.items c.loop-run.end item c.loop-run.invariant some
    (c.in_ok-push.ensures.items ∙ ap (λ (x : List ℕ). links ++ x ∷ []) c.in_ok-copy.ensures)
    (c.in_ok-push-2.ensures.items ∙ ap (λ (k : ℕ).
    c.loop-run.ends.items ++ (record { end = c.loop-run.end + item.0; link = k }) ∷ []) len))

pub from_parts-requires-clause-used : goal.from_parts-requires-clause-used
from_parts-requires-clause-used c =
    let runs = c.args.runs.now in
    let links = c.loop-run.links.items in
    let ends = c.loop-run.ends.items in
    let counted : Counted runs links ends c.loop-run.end =
    subst (λ (front : List Count). Counted front links ends c.loop-run.end)
    (take_all c.loop-run.run-index runs (let past = c.loop-run-test.false in
    omega (arith, past))) c.loop-run.invariant in
    subst (λ (l : List (List ℕ)). AreUsed (c.args.slots ^ c.args.arity) (length l)
    c.as_slice-2.result.now) (sym c.as_slice.ensures.value)
    (subst (AreUsed (c.args.slots ^ c.args.arity) (length links)) (sym c.as_slice-2.ensures.value)
    (AreUsed-counted c.args.slots c.args.arity runs links ends c.loop-run.end counted
    c.requires.whole c.requires.few))

pub returns-clause-each : goal.returns-clause-each
returns-clause-each c =
    let runs = c.args.runs.now in
    let links = c.loop-run.links.items in
    let ends = c.loop-run.ends.items in
    let counted : Counted runs links ends c.loop-run.end =
    subst (λ (front : List Count). Counted front links ends c.loop-run.end)
    (take_all c.loop-run.run-index runs (let past = c.loop-run-test.false in
    omega (arith, past))) c.loop-run.invariant in
    IfOk-weaker c.from_parts.result _ _ (λ (t : Antichains) is tuple tup.
    at_counted c.args.slots c.args.arity runs links ends c.loop-run.end counted c.requires.whole
    c.requires.few t
    (is ∙ ap (λ (l : List (List ℕ)). view_of c.args.slots c.args.arity l c.as_slice-2.result.now)
    c.as_slice.ensures.value ∙ ap (view_of c.args.slots c.args.arity links)
    c.as_slice-2.ensures.value) tuple tup) c.from_parts.ensures
