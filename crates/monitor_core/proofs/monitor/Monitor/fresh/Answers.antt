use Rattle.std.proofs.Common.{◌≡◌, List, [], length, refl, sym, subst}
use Rattle.std.specs.Prelude.{not}
use Rattle.std.specs.List.{All}
use Rattle.std.proofs.lemmas.List.Elements.{All-nil}
use Rattle.tcq_syntax.specs.Histories.{empty_history, HasElementsBelow}
use Rattle.tcq_syntax.specs.Tcq.{Tcq}
use Rattle.monitor_core.specs.Keeping.{Monitored, AllFresh}
use Rattle.monitor_core.specs.Standing.{came_with}
use Rattle.monitor_core.specs.Exchanging.{watched_of, FitsUnder, StandsUnder}
use Rattle.monitor_core.proofs.Starting.{fresh_fits, fresh_stands}
use Rattle.monitor_core.proofs.monitor.Monitor.fresh.Goals as goal

pub returns-clause-fits : goal.returns-clause-fits
returns-clause-fits c =
    let plan = c.self.inside.plan in
    let state = c.in_ok-state.state in
    subst (λ (m : Monitored). FitsUnder (watched_of m) state) c.self.view_is
    (fresh_fits plan.slots plan.queries.items state.kept.items
    (subst (λ (qs : List Tcq). AllFresh qs state.kept.items) c.as_slice.ensures.value
    c.in_ok-state.ensures.kept))

pub returns-clause-stands : goal.returns-clause-stands
returns-clause-stands c = λ unnamed.
    let plan = c.self.inside.plan in
    let state = c.in_ok-state.state in
    let closed = not c.self.inside.strangers in
    subst (λ (m : Monitored). StandsUnder (watched_of m) state (empty_history (not m.strangers)))
    c.self.view_is (record {
      counted = c.in_ok-state.ensures.count;
      closed = refl;
      names = sym (subst (λ (m : Monitored). came_with m ≡ []) (sym c.self.view_is) unnamed);
      known = All-nil (All (HasElementsBelow (length plan.ontology.individuals)));
      kept = fresh_stands plan.ontology plan.slots closed plan.queries.items state.kept.items
          (subst (λ (qs : List Tcq). AllFresh qs state.kept.items) c.as_slice.ensures.value
          c.in_ok-state.ensures.kept);
    })
