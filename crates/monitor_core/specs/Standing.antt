-- The history that a monitor stands for.
use Rattle.std.specs.Prelude.{◌≡◌, ℕ, ◌+◌, ◌-◌, ◌^◌, ◌≤◌, min, not, true, Some, List, [], ◌∷◌}
use Rattle.std.specs.Prelude.{drop, length, slice_get}
use Rattle.std.specs.List.{AllZip}
use Rattle.dl_syntax.specs.Ontology.{Declared, with_individuals}
use Rattle.dl_syntax.specs.declared.facts.Fact.{Fact}
use Rattle.dl_syntax.specs.Rows.{Relation}
use Rattle.tcq_syntax.specs.Tcq.{Tcq}
use Rattle.tcq_syntax.specs.Arrivals.{AreAcceptable}
use Rattle.tcq_syntax.specs.Histories.{History, HasIndividualsBelow, with_snapshot, with_names}
use Rattle.tcq_syntax.specs.Kept.{IsKeptSize}
use Rattle.tcq_syntax.specs.Sizes.{slot_units, units_of}
use Rattle.consistency.specs.Least.{IsLeastClash, IsConsistentUnder}
use Rattle.progression.specs.Kept.{StandsFor}
use Rattle.progression.specs.declared.kept.Kept.{Kept}
use Rattle.monitor_core.specs.Keeping.{Monitored, IsState}
use Rattle.monitor_core.specs.declared.plan.Plan.{Plan}
use Rattle.monitor_core.specs.declared.state.State.{State}
use Rattle.monitor_core.specs.Advancing.{one_more, AllAdvance}
use Rattle.monitor_core.specs.Setting.{Setting}
use Rattle.declaring.specs.declared.fault.DeclareFault.{DeclareFault}
use Rattle.declaring.specs.Declaring.{IsRefusal}
use Rattle.monitor_core.specs.Answering.{AreRowsOf, AreAllAnswers, own_count}

-- no snapshot came, and no name will
abbrev pub no_history : History
no_history = record { names = []; snapshots = []; is_closed = true }

-- how many snapshots a history has, as it is counted
abbrev pub count_of : History → ℕ
count_of history = min (length history.snapshots) (2 ^ 64 - 1)

-- what is kept of each query over so many slots stands for the history
abbrev pub AllStand : Declared → ℕ → History → List Tcq → List Kept → Type 0
AllStand ontology slots history queries kept =
    AllZip (StandsFor ontology.inclusions slots history) queries kept

unfoldable pub setting_of : Monitored → Setting
setting_of monitor = record {
  ontology = monitor.plan.ontology;
  queries =
      monitor.plan.queries.items;
}

-- the names of the individuals that came with the stream, which are the last ones
abbrev pub came_with : Monitored → List (List ℕ)
came_with monitor =
    drop (length monitor.plan.ontology.individuals - monitor.declared)
    monitor.plan.ontology.individuals

-- the monitor stands for the history: it counts the snapshots, which have only its individuals, its
-- last individuals are the history's names, and what it keeps stands for it
pub record Stands (monitor : Monitored) (history : History) : Type 0 where
  pub counted : monitor.state.count ≡ count_of history
  pub closed : history.is_closed ≡ not monitor.strangers
  pub names : history.names ≡ came_with monitor
  pub known : HasIndividualsBelow (length monitor.plan.ontology.individuals) history
  pub kept : AllStand monitor.plan.ontology monitor.plan.slots history monitor.plan.queries.items
      monitor.state.kept.items

-- the state that follows when these facts follow from a snapshot as far as is looked, and the
-- answers then
pub record IsNext (plan : Plan) (old : State) (facts : List Fact) (new : State)
    (relations : List Relation) : Type 0 where
  pub sound : IsState new
  pub counted : new.count ≡ one_more old.count
  pub advance : AllAdvance plan.ontology plan.slots plan.sight plan.queries.items facts
      old.kept.items new.kept.items relations

-- a monitor that stood for the history took the snapshot, and answered by these relations
pub record Accepts (old new : Monitored) (snapshot : List Fact) (relations : List Relation)
    (history : History) : Type 0 where
  pub stands : Stands new (with_snapshot snapshot history)
  pub answers : AreAllAnswers (setting_of old).ontology (setting_of old).queries
      (with_snapshot snapshot history) relations

-- whatever history the monitor stood for, it took the snapshot, and answered by these relations
abbrev pub Takes : Monitored → Monitored → List Fact → List Relation → Type 0
Takes old new snapshot relations =
    (history : History) → Stands old history → Accepts old new snapshot relations history

-- whatever history the monitor stood for, it stands for it with further names
abbrev pub Declares : Monitored → Monitored → List (List ℕ) → Type 0
Declares old new names =
    (history : History) → Stands old history → Stands new (with_names names history)

-- what is watched with further individuals
abbrev pub with_came : List (List ℕ) → Setting → Setting
with_came names setting = record setting { ontology = with_individuals names setting.ontology }

-- the plan with further individuals, and a slot for each. The rest of it stays
abbrev pub plan_with : List (List ℕ) → Plan → Plan
plan_with names plan = record plan {
  ontology = with_individuals names plan.ontology;
  slots = plan.slots + length names;
}

-- each name is acceptable after those before it
abbrev pub AreAcceptableTo : Monitored → List (List ℕ) → Type 0
AreAcceptableTo monitor names =
    AreAcceptable (setting_of monitor).ontology (setting_of monitor).queries (not monitor.strangers)
    names

-- the list is refused for the first fault, or for want of memory
abbrev pub IsRefusedBy : Monitored → List (List ℕ) → DeclareFault → Type 0
IsRefusedBy monitor names told =
    IsRefusal (setting_of monitor).ontology (setting_of monitor).queries (not monitor.strangers)
    names told

-- for each query a relation over its answer variables and the declared individuals
abbrev pub AreRowsIn : Setting → List Relation → Type 0
AreRowsIn setting relations = AreRowsOf setting.ontology setting.queries relations

-- the snapshot and the ontology can be true together
abbrev pub IsConsistentIn : Setting → List Fact → Type 0
IsConsistentIn setting snapshot = IsConsistentUnder setting.ontology snapshot

-- the clash with the number is the least that the snapshot meets
abbrev pub IsLeastIn : Setting → List Fact → ℕ → Type 0
IsLeastIn setting snapshot number = IsLeastClash setting.ontology snapshot number

-- the total length of the lists that are kept of all queries after the history, equal ones once
abbrev pub IsHeldSize : Setting → History → ℕ → Type 0
IsHeldSize setting history size =
    IsKeptSize setting.ontology.inclusions (own_count setting.ontology history) history
    setting.queries size

-- whatever history the monitor stands for, so much is held after it
abbrev pub HoldsSize : Monitored → ℕ → Type 0
HoldsSize monitor size =
    (history : History) → Stands monitor history → IsHeldSize (setting_of monitor) history size

-- and so much is kept of the query at the place
abbrev pub KeepsSize : Monitored → ℕ → ℕ → Type 0
KeepsSize monitor place size =
    (history : History) (query : Tcq) → Stands monitor history →
    slice_get (setting_of monitor).queries place ≡ Some query →
    IsHeldSize (record {
      ontology = (setting_of monitor).ontology;
      queries =
          query ∷ [];
    }) history size

-- the units of the queries over the declared individuals and a stranger
abbrev pub units_in : Setting → ℕ
units_in setting = slot_units (length setting.ontology.individuals) setting.queries

-- no more than the units of the query at the place
abbrev pub IsFewAt : Setting → ℕ → ℕ → Type 0
IsFewAt setting place size =
    (query : Tcq) → slice_get setting.queries place ≡ Some query →
    size ≤ units_of (length setting.ontology.individuals + 1) query
