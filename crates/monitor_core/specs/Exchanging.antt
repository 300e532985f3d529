-- States that take turns in one monitor.
use Rattle.std.specs.Prelude.{ℕ, Bool}
use Rattle.tcq_syntax.specs.Histories.{History}
use Rattle.monitor_core.specs.declared.plan.Plan.{Plan}
use Rattle.monitor_core.specs.declared.state.State.{State}
use Rattle.monitor_core.specs.Keeping.{Monitored, AllFit}
use Rattle.monitor_core.specs.Setting.{Setting}
use Rattle.monitor_core.specs.Standing.{Stands}

-- what a monitor watches, whatever state it is in: its plan, whether further names may come with
-- the stream, and how many individuals came
pub record Watched : Type 0 where
  pub plan : Plan
  pub strangers : Bool
  pub declared : ℕ

abbrev pub watched_of : Monitored → Watched
watched_of monitor = record {
  plan = monitor.plan;
  strangers = monitor.strangers;
  declared = monitor.declared;
}

-- the monitor that watches this and is in the state
abbrev pub in_state : Watched → State → Monitored
in_state watched state = record {
  plan = watched.plan;
  state = state;
  strangers = watched.strangers;
  declared = watched.declared;
}

-- queries, and the ontology under which they are answered
abbrev pub setting_under : Watched → Setting
setting_under watched = record {
  ontology = watched.plan.ontology;
  queries = watched.plan.queries.items;
}

-- what is kept of each query fits what is watched
abbrev pub FitsUnder : Watched → State → Type 0
FitsUnder watched state = AllFit watched.plan.slots watched.plan.queries.items state.kept.items

-- the state stands for the history, as a monitor that is in it does
abbrev pub StandsUnder : Watched → State → History → Type 0
StandsUnder watched state history = Stands (in_state watched state) history
