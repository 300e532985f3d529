-- The antichain of each run goes in once, as those of all its tuples would.
use Rattle.std.proofs.Common.{ℕ, List, sym, ◌∙◌, ap}
use Rattle.std.specs.Prelude.{map}
use Rattle.std.proofs.lemmas.Result.{on_ok_weaker}
use Rattle.formula_store.specs.Interned.{interned_all}
use Rattle.checkpoint_state.proofs.Interning.{interned_spread}
use Rattle.checkpoint_state.proofs.lists.add_table.Goals as goal

pub returns : goal.returns
returns c =
    let old = c.args.store.now in
    let runs = c.in_ok-runs.runs.items in
    let are = c.in_ok-runs.ensures in
    on_ok_weaker c.add_runs.result (λ is. is
    ∙ ap (λ (rs : List (ℕ × List ℕ)). interned_all old (map (λ r. r.1) rs))
    c.as_slice.ensures.value
    ∙ sym (interned_spread old runs are.some)
    ∙ ap (interned_all old) are.all) c.add_runs.ensures
