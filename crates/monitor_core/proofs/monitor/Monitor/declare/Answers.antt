-- A monitor takes further names.
use Rattle.std.proofs.Common.{◌≡◌, ℕ, ◌+◌, ◌<◌, Bool, true, false, List, length, refl, sym, ◌∙◌, ap}
use Rattle.std.proofs.Common.{subst, arith, inr}
use Rattle.std.specs.Prelude.{not, IfErr}
use Rattle.std.proofs.lemmas.Result.{IfErr-weaker, err_from_is_err_and}
use Rattle.dl_syntax.specs.Ontology.{Declared, with_individuals}
use Rattle.tcq_syntax.specs.Tcq.{Tcq}
use Rattle.tcq_syntax.specs.Arrivals.{Closed, AreAcceptable}
use Rattle.declaring.specs.declared.fault.DeclareFault.{DeclareFault}
use Rattle.declaring.specs.declared.fault.DeclareFault.TheVariants as declare
use Rattle.declaring.specs.Declaring.{IsRefusal}
use Rattle.monitor_core.specs.declared.plan.Plan.{Plan}
use Rattle.monitor_core.specs.Keeping.{Monitored}
use Rattle.monitor_core.specs.Standing.{Stands, AreAcceptableTo, IsRefusedBy, setting_of, with_came}
use Rattle.monitor_core.specs.Standing.{plan_with}
use Rattle.monitor_core.proofs.Widening.{still_monitored, new_setting, declares}
use Rattle.monitor_core.proofs.monitor.Monitor.declare.Goals as goal

-- where no name may come, the first one is at fault
closed_to : (o : Declared) (queries : List Tcq) (names : List (List ℕ)) (fault : DeclareFault)
    → (fault ≡ declare.Closed) × (0 < length names) → IsRefusal o queries true names fault
closed_to o queries names fault is = inr (
  0,
  Closed,
  record {
    within = is.1;
    before = λ earlier less. absurd (omega (arith, less));
    there = λ name at. refl;
  },
  is.0,
)

pub returns-then-not-self-clause-refused : goal.returns-then-not-self-clause-refused
unfolding setting_of
returns-then-not-self-clause-refused c =
    let o = c.self.inside.plan.ontology in
    let queries = c.self.inside.plan.queries.items in
    let shut : true ≡ not c.self.inside.strangers = sym (ap not c.if-not-self.true) in
    subst (λ (m : Monitored). IfErr c.refuse_any.result (IsRefusedBy m c.args.names.now))
    c.self.view_is
    (IfErr-weaker c.refuse_any.result (λ (fault : DeclareFault).
    (fault ≡ declare.Closed) × (0 < length c.args.names.now)) (λ (fault : DeclareFault).
    IsRefusal o queries (not c.self.inside.strangers) c.args.names.now fault)
    (λ fault is. subst (λ (b : Bool). IsRefusal o queries b c.args.names.now fault) shut
    (closed_to o queries c.args.names.now fault is)) c.refuse_any.ensures.err)

pub returns-in_err-more-clause-refused : goal.returns-in_err-more-clause-refused
unfolding setting_of
returns-in_err-more-clause-refused c =
    let o = c.self.inside.plan.ontology in
    let queries = c.self.inside.plan.queries.items in
    let open_still : false ≡ not c.self.inside.strangers = sym (ap not c.if-not-self.false) in
    let fault = c.in_err-more.field-0.0 in
    let refused : IsRefusedBy c.args.self.now c.args.names.now fault =
    subst (λ (m : Monitored). IsRefusedBy m c.args.names.now fault) c.self.view_is
    (subst (λ (b : Bool). IsRefusal o queries b c.args.names.now fault) open_still
    c.in_err-more.ensures.fault) in
    let p = err_from_is_err_and c.from_residual.result c.from_residual.ensures.1 in
    rw p.1 (subst (IsRefusedBy c.args.self.now c.args.names.now) (sym p.2) refused)

pub invariant_of-self-2 : goal.invariant_of-self-2
invariant_of-self-2 c =
    let inside : Monitored = record {
      plan = c.self.inside.plan;
      state = c.self.inside.state;
      strangers = c.self.inside.strangers;
      declared = c.self.inside.declared;
    } in
    still_monitored inside c.args.names.now c.in_ok-more.more c.declare_wider.new.plan
    c.declare_wider.new.state c.self.invariant c.if-not-self.false c.requires
    c.in_ok-more.ensures.ok c.in_ok-more.ensures.none

pub returns-clause-ok : goal.returns-clause-ok
returns-clause-ok c = λ history stands.
    let inside : Monitored = record {
      plan = c.self.inside.plan;
      state = c.self.inside.state;
      strangers = c.self.inside.strangers;
      declared = c.self.inside.declared;
    } in
    declares inside c.args.names.now c.in_ok-more.more c.declare_wider.new.plan
    c.declare_wider.new.state c.self.invariant c.if-not-self.false c.requires
    c.in_ok-more.ensures.ok c.in_ok-more.ensures.none history
    (subst (λ (m : Monitored). Stands m history) (sym c.self.view_is) stands)

pub returns-clause-setting : goal.returns-clause-setting
returns-clause-setting c =
    let inside : Monitored = record {
      plan = c.self.inside.plan;
      state = c.self.inside.state;
      strangers = c.self.inside.strangers;
      declared = c.self.inside.declared;
    } in
    new_setting inside c.args.names.now c.in_ok-more.more c.declare_wider.new.plan
    c.declare_wider.new.state c.self.invariant c.if-not-self.false c.requires
    c.in_ok-more.ensures.ok c.in_ok-more.ensures.none ∙ ap (λ (m : Monitored).
    with_came c.args.names.now (setting_of m)) c.self.view_is

pub returns-clause-plan : goal.returns-clause-plan
returns-clause-plan c =
    let names = c.args.names.now in
    let old = c.self.inside.plan in
    c.in_ok-more.ensures.ok.plan ∙ ap (λ (more : ℕ). let plan : Plan = record old {
      ontology = with_individuals names old.ontology;
      slots = old.slots + more;
    } in plan) c.in_ok-more.ensures.ok.many ∙ ap (λ (m : Monitored). plan_with names m.plan)
    c.self.view_is

pub returns-clause-acceptable : goal.returns-clause-acceptable
unfolding setting_of
returns-clause-acceptable c =
    let o = c.self.inside.plan.ontology in
    let queries = c.self.inside.plan.queries.items in
    let open_still : false ≡ not c.self.inside.strangers = sym (ap not c.if-not-self.false) in
    subst (λ (m : Monitored). AreAcceptableTo m c.args.names.now) c.self.view_is
    (subst (λ (b : Bool). AreAcceptable o queries b c.args.names.now) open_still
    c.in_ok-more.ensures.none)
