-- Each part of what is written is that of the monitor.
use Rattle.std.proofs.Common.{◌≡◌, ◌<◌, ◌^◌, ℕ, List, sym, ◌∙◌, ap, subst}
use Rattle.std.specs.Prelude.{All}
use Rattle.std.specs.List.{Contains}
use Rattle.antichains.specs.Antichain.{IsAntichain}
use Rattle.formula_store.specs.Interned.{AreDistinct}
use Rattle.progression.specs.declared.kept.Kept.{Kept}
use Rattle.checkpoint_state.specs.Suspending.{all_nodes, antichains_of, kept_lists}
use Rattle.checkpoint_state.proofs.Fitting.{lists_distinct, lists_known}
use Rattle.checkpoint_state.proofs.Parts.{IsWrittenOf, written_fits, written_same, written_tells}
use Rattle.checkpoint_state.proofs.suspending.suspend.Goals as goal

pub all_nodes-requires-clause-distinct : goal.all_nodes-requires-clause-distinct
all_nodes-requires-clause-distinct c =
    subst AreDistinct (sym c.in_ok-store.ensures) (lists_distinct c.kept-kept.result.now)

pub all_nodes-requires-clause-known : goal.all_nodes-requires-clause-known
all_nodes-requires-clause-known c =
    subst (λ (l : List (List ℕ)). All (Contains l) (antichains_of c.kept-kept.result.now))
    (sym c.in_ok-store.ensures) (lists_known c.kept-kept.result.now)

pub returns : goal.returns
returns c =
    let m = c.args.monitor.now in
    let store : c.in_ok-store.store ≡ kept_lists m.state.kept.items =
    c.in_ok-store.ensures ∙ ap (λ (ks : List Kept). kept_lists ks) c.kept-kept.ensures.kept in
    let few = subst (λ (n : ℕ). n < 2 ^ 64) c.count.ensures.state c.count.type_inv in
    let antichains : All IsAntichain (kept_lists m.state.kept.items) =
    subst (All IsAntichain) (c.store.view_is ∙ store) c.store.invariant.are_antichains in
    let written : IsWrittenOf m _ = record {
      names = c.in_ok-names.ensures;
      accepted = c.count.ensures.state;
      lists = c.in_ok-lists.ensures ∙ c.links.ensures.list ∙ store;
      queries = c.in_ok-queries.ensures
          ∙ ap (λ (l : List (List ℕ)). all_nodes l c.kept-kept.result.now) store
          ∙ ap (all_nodes (kept_lists m.state.kept.items)) c.kept-kept.ensures.kept;
    } in
    record {
      value = written_same m _ written;
      fits = written_fits m _ written c.kept-kept.ensures.sound few antichains;
      tells = written_tells m _ written c.kept-kept.ensures.sound few antichains;
    }
