use Rattle.std.proofs.Common.{◌≡◌, ℕ, List, [], ◌∷◌, sym, ◌∙◌, ap, subst}
use Rattle.formula_store.specs.Interned.{interned_all}
use Rattle.formula_store.proofs.Lists.{generation}
use Rattle.list_lemmas.proofs.Elements.{Contains-first, Contains-single}
use Rattle.progression.specs.declared.kept.Kept.{Kept}
use Rattle.monitor_core.specs.Keeping.{KeepsOf, KeepsAntichain, AddsAntichains}
use Rattle.monitor_core.proofs.Storing.{adds_same, store_of}
use Rattle.monitor_core.proofs.state.set_count_of.Goals as goal

pub returns : goal.returns
returns c =
    let k = c.args.kept.now in
    let links = c.add_kept.new.links.items in
    let one : AddsAntichains (KeepsOf k) [] links =
    subst (λ (old : List (List ℕ)). AddsAntichains (KeepsOf k) old links)
    c.new-links.ensures.items c.in_ok-add_kept.ensures in
    let gathered : AddsAntichains (KeepsAntichain (k ∷ [])) [] links =
    adds_same (KeepsOf k) (KeepsAntichain (k ∷ [])) [] links
    (λ antichain. (
      λ keeps. (k, Contains-first k [], keeps),
      λ has.
          subst (λ (x : Kept). KeepsOf x antichain) (sym (Contains-single k has.0 has.1)) has.2,
    ))
    one in
    let list : c.in_ok-store.store ≡ interned_all [] links =
    c.in_ok-store.ensures.list ∙ ap (interned_all []) c.as_slice.ensures.value in (
      c.in_ok-store.store,
      store_of generation (k ∷ []) links c.in_ok-store.store gathered list,
      c.set_count.ensures.antichains,
      c.set_count.ensures.total,
    )
