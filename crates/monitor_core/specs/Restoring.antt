-- What a monitor goes on from.
use Rattle.std.specs.Prelude.{◌≡◌, ℕ, false, true, List, length}
use Rattle.std.specs.List.{All}
use Rattle.tcq_syntax.specs.Histories.{empty_history}
use Rattle.progression.specs.declared.kept.Kept.{Kept}
use Rattle.monitor_core.specs.declared.plan.Plan.{Plan}
use Rattle.monitor_core.specs.Keeping.{AllFit, IsMonitored, Monitored}
use Rattle.monitor_core.specs.Standing.{Stands}

-- no snapshot came and no name, but names may come
pub record IsUnused (m : Monitored) : Type 0 where
  pub counted : m.state.count ≡ 0
  pub strangers : m.strangers ≡ true
  pub none : m.declared ≡ 0

-- this may be what is kept under the plan after so many snapshots
pub record IsKeptUnder (plan : Plan) (count : ℕ) (kept : List Kept) : Type 0 where
  pub counts : All (λ k. k.count ≡ count) kept
  pub fits : AllFit plan.slots plan.queries.items kept

-- the plan without a slot for the stranger
abbrev pub plan_without_stranger : Plan → Plan
plan_without_stranger plan = record plan { slots = length plan.ontology.individuals }

-- a monitor that stands for the empty history, which isn't closed, is unused
abbrev pub EmptyIsUnused : Type 0
EmptyIsUnused = (m : Monitored) → IsMonitored m → Stands m (empty_history false) → IsUnused m
