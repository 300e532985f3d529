use Rattle.std.proofs.Common.{◌+◌, List, length, refl, sym, ◌∙◌, ap, subst, arith}
use Rattle.std.specs.Prelude.{not, if◌then◌else◌}
use Rattle.std.specs.List.{All}
use Rattle.std.proofs.Math.ListN.{drop_of_length-le}
use Rattle.std.proofs.lemmas.List.Elements.{All-nil}
use Rattle.tcq_syntax.specs.Histories.{HasElementsBelow}
use Rattle.std.specs.Prelude.{Vec}
use Rattle.std.specs.Global.{Global}
use Rattle.dl_syntax.specs.Ontology.{Declared}
use Rattle.tcq_syntax.specs.Tcq.{Tcq}
use Rattle.monitor_core.specs.Setting.{Setting}
use Rattle.monitor_core.specs.Keeping.{AllFresh}
use Rattle.monitor_core.specs.Standing.{setting_of}
use Rattle.monitor_core.proofs.Starting.{fresh_fits, fresh_stands}
use Rattle.monitor_core.proofs.opening.opened.Goals as goal

pub invariant_of-result : goal.invariant_of-result
invariant_of-result c = record {
  plan = c.in-Ok.ensures.plan;
  state = c.in-Ok-first_state.ensures.state;
  fits = fresh_fits c.in-Ok.plan.slots c.in-Ok.plan.queries.items
      c.in-Ok-first_state.state.kept.items
      (subst (λ (qs : List Tcq). AllFresh qs c.in-Ok-first_state.state.kept.items)
      c.as_slice.ensures.value c.in-Ok-first_state.ensures.kept);
  slots = c.in-Ok.ensures.slots ∙ ap (λ (o : Declared).
      length o.individuals + (if c.args.strangers then 1 else 0)) (sym c.in-Ok.ensures.ontology);
  came = omega arith;
  closed = λ _. refl;
}

pub returns-in-Ok-first_state-clause-stands : goal.returns-in-Ok-first_state-clause-stands
returns-in-Ok-first_state-clause-stands c =
    let individuals = c.in-Ok.plan.ontology.individuals in
    record {
      counted = c.in-Ok-first_state.ensures.count;
      closed = refl;
      names = sym (drop_of_length-le individuals (omega arith));
      known = All-nil (All (HasElementsBelow (length individuals)));
      kept = fresh_stands c.in-Ok.plan.ontology c.in-Ok.plan.slots (not c.args.strangers)
          c.in-Ok.plan.queries.items c.in-Ok-first_state.state.kept.items
          (subst (λ (qs : List Tcq). AllFresh qs c.in-Ok-first_state.state.kept.items)
          c.as_slice.ensures.value c.in-Ok-first_state.ensures.kept);
    }

pub returns-in-Ok-first_state-clause-setting : goal.returns-in-Ok-first_state-clause-setting
unfolding setting_of
returns-in-Ok-first_state-clause-setting c =
    ap (λ (o : Declared). let s : Setting =
    record { ontology = o; queries = c.in-Ok.plan.queries.items } in s) c.in-Ok.ensures.ontology
    ∙ ap (λ (qs : Vec Tcq Global). let s : Setting =
    record { ontology = c.args.ontology; queries = qs.items } in s) c.in-Ok.ensures.queries
