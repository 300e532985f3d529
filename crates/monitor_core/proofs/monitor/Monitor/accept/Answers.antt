use Rattle.std.proofs.Common.{◌≡◌, ℕ, List, refl, sym, ap, subst}
use Rattle.std.specs.Prelude.{Option, None, Some}
use Rattle.dl_syntax.specs.declared.facts.Fact.{Fact}
use Rattle.dl_syntax.specs.Ontology.{Declared}
use Rattle.consistency.specs.Least.{IsFirstClash, IsLeastClash, IsConsistentUnder}
use Rattle.monitor_core.specs.Keeping.{Monitored}
use Rattle.monitor_core.specs.Answering.{AreOver, AreRowsOf}
use Rattle.monitor_core.specs.Advancing.{one_more}
use Rattle.monitor_core.specs.Standing.{Stands, Accepts, setting_of}
use Rattle.monitor_core.proofs.Seeing.{agree_on_clashes}
use Rattle.monitor_core.proofs.Accepting.{over_setting}
use Rattle.monitor_core.proofs.Accepting.{after, still_monitored, next_rows, accepts}
use Rattle.monitor_core.proofs.monitor.Monitor.accept.Goals as goal

pub closed-requires-clause-over : goal.closed-requires-clause-over
unfolding setting_of
closed-requires-clause-over c =
    subst (λ (m : Monitored). AreOver (setting_of m).ontology c.args.snapshot.now)
    (sym c.self.view_is) c.requires

none_first : (o : Declared) (snapshot : List Fact) (first : Option ℕ)
    → ((number : ℕ) → first ≡ Some number → ⊥) → IsFirstClash o snapshot first
    → IsConsistentUnder o snapshot
none_first o snapshot None never is = is
none_first o snapshot (Some number) never is = absurd (never number refl)

pub returns-in-Some-clause-contradiction : goal.returns-in-Some-clause-contradiction
unfolding setting_of
returns-in-Some-clause-contradiction c = λ number is.
    let o = c.self.inside.plan.ontology in
    let same : c.in-Some.number ≡ number = cc in
    let least : IsLeastClash o c.args.snapshot.now number =
    subst (IsLeastClash o c.args.snapshot.now) same
    (subst (IsFirstClash o c.args.snapshot.now) c.in-Some.is
    (c.in_ok-number.ensures c.self.inside.plan.ontology c.args.snapshot.now
    c.in_ok-facts.ensures.0 c.self.invariant.plan.clashes_for
    (over_setting (record {
      plan = c.self.inside.plan;
      state = c.self.inside.state;
      strangers = c.self.inside.strangers;
      declared = c.self.inside.declared;
    }) c.args.self.now c.args.snapshot.now c.self.view_is
    c.self.invariant c.requires).1 c.in_ok-facts.ensures.1
    (agree_on_clashes c.self.inside.plan.sight c.in_ok-facts.ensures.0 c.in_ok-facts.facts
    c.in_ok-facts.ensures.2 c.self.inside.plan.clashes c.self.invariant.plan.sees_clashes))) in
    subst (λ (m : Monitored). IsLeastClash (setting_of m).ontology c.args.snapshot.now number)
    c.self.view_is least

pub invariant_of-self : goal.invariant_of-self
invariant_of-self c = c.self.invariant

pub invariant_of-self-2 : goal.invariant_of-self-2
invariant_of-self-2 c = still_monitored (record {
  plan = c.self.inside.plan;
  state = c.self.inside.state;
  strangers = c.self.inside.strangers;
  declared = c.self.inside.declared;
}) c.in_ok-facts.facts c.in_ok-state.state c.in_ok-state.answers.items
    c.in_ok-state.ensures c.self.invariant

pub returns-clause-plan : goal.returns-clause-plan
returns-clause-plan c = ap (λ (m : Monitored). m.plan) c.self.view_is

pub returns-clause-strangers : goal.returns-clause-strangers
returns-clause-strangers c = ap (λ (m : Monitored). m.strangers) c.self.view_is

pub returns-clause-declared : goal.returns-clause-declared
returns-clause-declared c = ap (λ (m : Monitored). m.declared) c.self.view_is

pub returns-clause-counted : goal.returns-clause-counted
returns-clause-counted c = subst (λ (m : Monitored). c.in_ok-state.state.count
    ≡ one_more m.state.count) c.self.view_is c.in_ok-state.ensures.counted

pub returns-clause-setting : goal.returns-clause-setting
unfolding setting_of
returns-clause-setting c = ap (λ (m : Monitored). setting_of m) c.self.view_is

pub returns-clause-rows : goal.returns-clause-rows
returns-clause-rows c =
    subst (λ (m : Monitored). AreRowsOf (setting_of m).ontology (setting_of m).queries
    c.in_ok-state.answers.items) c.self.view_is
    (next_rows (record {
      plan = c.self.inside.plan;
      state = c.self.inside.state;
      strangers = c.self.inside.strangers;
      declared = c.self.inside.declared;
    }) c.in_ok-facts.facts c.in_ok-state.state c.in_ok-state.answers.items
    c.in_ok-state.ensures)

pub returns-clause-consistent : goal.returns-clause-consistent
unfolding setting_of
returns-clause-consistent c =
    subst (λ (m : Monitored). IsConsistentUnder (setting_of m).ontology c.args.snapshot.now)
    c.self.view_is
    (none_first c.self.inside.plan.ontology c.args.snapshot.now c.in_ok-number.field-0 (λ number is.
    c.in_default.not-Some number is)
    (c.in_ok-number.ensures c.self.inside.plan.ontology c.args.snapshot.now
    c.in_ok-facts.ensures.0 c.self.invariant.plan.clashes_for
    (over_setting (record {
      plan = c.self.inside.plan;
      state = c.self.inside.state;
      strangers = c.self.inside.strangers;
      declared = c.self.inside.declared;
    }) c.args.self.now c.args.snapshot.now c.self.view_is
    c.self.invariant c.requires).1 c.in_ok-facts.ensures.1
    (agree_on_clashes c.self.inside.plan.sight c.in_ok-facts.ensures.0 c.in_ok-facts.facts
    c.in_ok-facts.ensures.2 c.self.inside.plan.clashes c.self.invariant.plan.sees_clashes)))

pub returns-clause-ok : goal.returns-clause-ok
returns-clause-ok c = λ history stands.
    let before : Stands (record {
      plan = c.self.inside.plan;
      state = c.self.inside.state;
      strangers = c.self.inside.strangers;
      declared = c.self.inside.declared;
    }) history =
    subst (λ (m : Monitored). Stands m history) (sym c.self.view_is) stands in
    subst (λ (m : Monitored). Accepts m (after (record {
      plan = c.self.inside.plan;
      state = c.self.inside.state;
      strangers = c.self.inside.strangers;
      declared = c.self.inside.declared;
    }) c.in_ok-facts.facts c.in_ok-state.state c.in_ok-state.answers.items
    c.in_ok-state.ensures) c.args.snapshot.now c.in_ok-state.answers.items history)
    c.self.view_is
    (accepts (record {
      plan = c.self.inside.plan;
      state = c.self.inside.state;
      strangers = c.self.inside.strangers;
      declared = c.self.inside.declared;
    }) c.in_ok-facts.facts c.in_ok-state.state c.in_ok-state.answers.items
    c.in_ok-state.ensures c.args.snapshot.now history
    (over_setting (record {
      plan = c.self.inside.plan;
      state = c.self.inside.state;
      strangers = c.self.inside.strangers;
      declared = c.self.inside.declared;
    }) c.args.self.now c.args.snapshot.now c.self.view_is
    c.self.invariant c.requires).0 (over_setting (record {
      plan = c.self.inside.plan;
      state = c.self.inside.state;
      strangers = c.self.inside.strangers;
      declared = c.self.inside.declared;
    }) c.args.self.now c.args.snapshot.now c.self.view_is
    c.self.invariant c.requires).1 c.in_ok-facts.ensures before)
