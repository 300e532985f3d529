-- What a monitor keeps from one snapshot to the next.
use Rattle.std.specs.Prelude.{◌≡◌, ◌↔◌, ◌⊎◌, ℕ, ◌+◌, ◌≤◌, if◌then◌else◌, Bool, false, List, []}
use Rattle.std.specs.Prelude.{◌∷◌, length}
use Rattle.std.specs.List.{All, AllZip, Contains, sum_by}
use Rattle.dl_syntax.specs.declared.ontology.Inclusion.{Inclusion}
use Rattle.tcq_syntax.specs.Histories.{empty_history}
use Rattle.tcq_syntax.specs.Tcq.{Tcq}
use Rattle.antichains.specs.Antichain.{IsAntichain}
use Rattle.formula_store.specs.Interned.{AreDistinct}
use Rattle.answer_tables.specs.Table.{Antichains, HasAntichain}
use Rattle.progression.specs.Kept.{Fits, StandsFor}
use Rattle.progression.specs.declared.kept.Kept.{Kept}
use Rattle.monitor_core.specs.declared.plan.Plan.{Plan}
use Rattle.monitor_core.specs.declared.state.State.{State}
use Rattle.monitor_core.specs.Planning.{IsPlan}

-- some tuple of a table that is kept of a query has the antichain
abbrev pub KeepsOf : Kept → List ℕ → Type 0
KeepsOf kept antichain = (place : ℕ) × (table : Antichains)
    × Contains kept.tables.items (place, table) × HasAntichain table antichain

-- some tuple of a kept table has it
abbrev pub KeepsAntichain : List Kept → List ℕ → Type 0
KeepsAntichain kept antichain = (k : Kept) × Contains kept k × KeepsOf k antichain

-- the new list has what the old one has, and exactly what the property holds of beside
abbrev pub AddsAntichains : (List ℕ → Type 0) → List (List ℕ) → List (List ℕ) → Type 0
AddsAntichains P old new = (antichain : List ℕ)
    → Contains new antichain ↔ (Contains old antichain ⊎ P antichain)

-- the list has exactly the antichains of the kept tables, each once
pub record IsStoreOf (kept : List Kept) (store : List (List ℕ)) : Type 0 where
  pub distinct : AreDistinct store
  pub exact : (antichain : List ℕ) → Contains store antichain ↔ KeepsAntichain kept antichain

-- the total length of the distinct antichains that are kept of one query
abbrev pub IsSetCountOf : Kept → ℕ → Type 0
IsSetCountOf k size =
    (store : List (List ℕ)) × IsStoreOf (k ∷ []) store × All IsAntichain store
    × (size ≡ sum_by length store)

-- what is kept of each query counts the snapshots that the state counts
abbrev pub AreCounted : State → Type 0
AreCounted state = All (λ k. k.count ≡ state.count) state.kept.items

-- all count the same snapshots, and the antichains are those of the kept tables
pub record IsState (state : State) : Type 0 where
  pub counts : AreCounted state
  pub stored : IsStoreOf state.kept.items state.store

-- what is kept of each query over so many slots fits it
abbrev pub AllFit : ℕ → List Tcq → List Kept → Type 0
AllFit slots queries kept = AllZip (λ query k. Fits query slots k) queries kept

-- what a monitor watches and what it keeps, whether further names may come with the stream, and
-- how many came
pub record Monitored : Type 0 where
  pub plan : Plan
  pub state : State
  pub strangers : Bool
  pub declared : ℕ

-- the last individuals are those that came with the stream, and there is one slot more for the
-- stranger, which stands for all that may still come
pub record IsMonitored (m : Monitored) : Type 0 where
  pub plan : IsPlan m.plan
  pub state : IsState m.state
  pub fits : AllFit m.plan.slots m.plan.queries.items m.state.kept.items
  pub slots : m.plan.slots
      ≡ length m.plan.ontology.individuals + (if m.strangers then 1 else 0)
  pub came : m.declared ≤ length m.plan.ontology.individuals
  pub closed : m.strangers ≡ false → m.declared ≡ 0

-- before any snapshot nothing is kept of a query
pub record IsFresh (query : Tcq) (kept : Kept) : Type 0 where
  pub counted : kept.count ≡ 0
  pub fits : (slots : ℕ) → Fits query slots kept
  pub stands : (inclusions : List Inclusion) (slots : ℕ) (closed : Bool)
      → StandsFor inclusions slots (empty_history closed) query kept

abbrev pub AllFresh : List Tcq → List Kept → Type 0
AllFresh queries kept = AllZip IsFresh queries kept
