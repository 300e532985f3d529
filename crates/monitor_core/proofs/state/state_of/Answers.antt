use Rattle.std.proofs.Common.{◌≡◌, List, [], ◌∙◌, ap, subst}
use Rattle.formula_store.specs.Interned.{interned_all}
use Rattle.formula_store.proofs.Lists.{generation}
use Rattle.progression.specs.declared.kept.Kept.{Kept}
use Rattle.monitor_core.specs.Keeping.{KeepsAntichain, AddsAntichains}
use Rattle.monitor_core.proofs.Storing.{store_of}
use Rattle.monitor_core.proofs.state.state_of.Goals as goal

pub returns-clause-sound : goal.returns-clause-sound
returns-clause-sound c =
    let gathered : AddsAntichains (KeepsAntichain c.args.kept.items) [] c.in_ok-links.links.items =
    subst (λ (ks : List Kept). AddsAntichains (KeepsAntichain ks) [] c.in_ok-links.links.items)
    c.as_slice.ensures.value c.in_ok-links.ensures in
    let list : c.in_ok-store.store ≡ interned_all [] c.in_ok-links.links.items =
    c.in_ok-store.ensures.list ∙ ap (interned_all []) c.as_slice-2.ensures.value in
    record {
      counts = c.requires;
      stored =
          store_of generation c.args.kept.items c.in_ok-links.links.items c.in_ok-store.store
          gathered
          list;
    }
