-- The stretches are the runs with the numbers of their antichains.
use Rattle.std.proofs.Common.{◌≡◌, ℕ, List, sym, ◌∙◌, ap, subst}
use Rattle.std.specs.Prelude.{map, All}
use Rattle.std.specs.List.{Contains}
use Rattle.std.proofs.lemmas.Result.{IfOk-weaker}
use Rattle.answer_tables.specs.Lengths.{antichains_in}
use Rattle.checkpoint_state.specs.Suspending.{number_in, stretch_of, stretches_of}
use Rattle.checkpoint_state.proofs.Stretching.{known_runs, stretches_runs}
use Rattle.checkpoint_state.proofs.nodes.stretches_of.Goals as goal

pub numbered-requires-clause-known : goal.numbered-requires-clause-known
numbered-requires-clause-known c =
    let store = c.args.store.now in
    let are = c.in_ok-runs.ensures in
    subst (All (λ (r : ℕ × List ℕ). Contains store r.1)) (sym c.as_slice.ensures.value)
    (known_runs store c.in_ok-runs.runs.items are.some
    (subst (All (Contains store)) (sym are.all) c.requires.known))

pub returns : goal.returns
returns c =
    let store = c.args.store.now in
    let antichains = antichains_in c.args.table.now in
    IfOk-weaker c.numbered.result
    (λ stretches. stretches.items ≡ map (stretch_of store) c.as_slice.result.now)
    (λ stretches. stretches.items ≡ stretches_of (map (number_in store) antichains))
    (λ stretches is. is ∙ ap (map (stretch_of store)) c.as_slice.ensures.value
    ∙ sym (stretches_runs store antichains c.in_ok-runs.runs.items c.in_ok-runs.ensures
    c.requires.known)) c.numbered.ensures
