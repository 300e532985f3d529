-- A monitor that goes on from what another kept.
use Rattle.std.proofs.Common.{◌≡◌, ◌≤◌, ◌+◌, ◌-◌, ℕ, false, true, List, [], length, refl, sym, ◌∙◌}
use Rattle.std.proofs.Common.{Bool, ap, subst, arith}
use Rattle.std.specs.Prelude.{not, drop, Vec}
use Rattle.std.specs.Global.{Global}
use Rattle.std.proofs.Common.{length-drop}
use Rattle.progression.specs.declared.kept.Kept.{Kept}
use Rattle.monitor_core.specs.declared.plan.Plan.{Plan}
use Rattle.monitor_core.specs.declared.state.State.{State}
use Rattle.monitor_core.specs.Planning.{IsPlan}
use Rattle.monitor_core.specs.Keeping.{AllFit, IsMonitored, IsState, Monitored}
use Rattle.monitor_core.specs.Restoring.{EmptyIsUnused, IsKeptUnder, plan_without_stranger}

-- with another state that is kept under its plan
pub with_state : (m : Monitored) (plan : Plan) (count : ℕ) (kept : Vec Kept Global) (state : State)
    → IsMonitored m → m.plan ≡ plan → IsKeptUnder plan count kept.items → IsState state
    → state.kept ≡ kept → IsMonitored (record m { state = state })
with_state m plan count kept state is same under sound keeps = record {
  plan = is.plan;
  state = sound;
  fits = subst (λ (ks : Vec Kept Global). AllFit m.plan.slots m.plan.queries.items ks.items)
      (sym keeps)
      (subst (λ (p : Plan). AllFit p.slots p.queries.items kept.items) (sym same) under.fits);
  slots = is.slots;
  came = is.came;
  closed = is.closed;
}

still_plan : (plan : Plan) → IsPlan plan → IsPlan (plan_without_stranger plan)
still_plan plan is = record {
  sound = is.sound;
  tables = is.tables;
  within = is.within;
  counted = omega arith;
  few_slots = omega arith;
  leaves = is.leaves;
  places = is.places;
  clashes_for = is.clashes_for;
  saturates = is.saturates;
  sees_leaves = is.sees_leaves;
  sees_clashes = is.sees_clashes;
}

-- closed, with a state that is kept then
pub closed_with : (m : Monitored) (slots count : ℕ) (kept : Vec Kept Global) (state : State)
    → IsMonitored m → m.declared ≡ 0 → slots ≡ length m.plan.ontology.individuals
    → IsKeptUnder (plan_without_stranger m.plan) count kept.items → IsState state
    → state.kept ≡ kept → IsMonitored (record {
      plan = record (m.plan) { slots = slots };
      state = state;
      strangers = false;
      declared = m.declared;
    })
closed_with m slots count kept state is none few under sound keeps =
    subst (λ (n : ℕ). IsMonitored (record {
      plan = record (m.plan) { slots = n };
      state = state;
      strangers = false;
      declared = m.declared;
    })) (sym few) (record {
      plan = still_plan m.plan is.plan;
      state = sound;
      fits = subst (λ (ks : Vec Kept Global). AllFit (length m.plan.ontology.individuals)
          m.plan.queries.items ks.items) (sym keeps) under.fits;
      slots = omega arith;
      came = is.came;
      closed = λ _. none;
    })

pub unused : EmptyIsUnused
unused m is stands = record {
  counted = stands.counted;
  strangers = opposite m.strangers stands.closed;
  none = let came = is.came in
      let long : 0 ≡ length m.plan.ontology.individuals
      - (length m.plan.ontology.individuals - m.declared) =
      ap (λ (xs : List (List ℕ)). length xs) stands.names
      ∙ length-drop (length m.plan.ontology.individuals - m.declared) m.plan.ontology.individuals in
      omega (arith, came, long);
}
  where
    opposite : (b : Bool) → false ≡ not b → b ≡ true
    opposite true is_not = refl
    opposite false is_not = absurd (cc)
