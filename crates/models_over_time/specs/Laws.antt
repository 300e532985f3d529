-- Laws of formulas in sequences of models.
use Rattle.std.specs.Prelude.{◌≡◌, ℕ, ◌<◌, ◌↔◌, List, ◌++◌, length}
use Rattle.std.specs.List.{All}
use Rattle.dl_syntax.specs.declared.names.IndId.{IndId}
use Rattle.dl_syntax.specs.declared.facts.Element.{Element}
use Rattle.dl_syntax.specs.declared.facts.Fact.{Fact}
use Rattle.dl_syntax.specs.declared.ontology.Inclusion.{Inclusion}
use Rattle.dl_syntax.specs.declared.ontology.Clash.{Clash}
use Rattle.dl_syntax.specs.Facts.{HasNoNull}
use Rattle.dl_syntax.specs.Chase.{IsConsistent}
use Rattle.dl_syntax.specs.Ontology.{Declared}
use Rattle.tcq_syntax.specs.Tcq.{Tcq}
use Rattle.tcq_syntax.specs.Histories.{History, snapshot_at, individuals_of}
use Rattle.tcq_syntax.specs.Formula.{Formula}
use Rattle.tcq_syntax.specs.Time.{Holds}
use Rattle.tcq_syntax.specs.Answers.{AreAnswers}
use Rattle.tcq_syntax.specs.Accepted.{IsHistory}
use Rattle.models.specs.Models.{Interpretation}
use Rattle.models.specs.Entailment.{IsPartOf, Entails}
use Rattle.models_over_time.specs.Readings.{
  HoldsBy,
  certainly,
  HoldsIn,
  AreModels,
  steady,
  all_united,
  AreConsistent,
  HoldsInAll,
  AreExact,
  AreCommonAnswers,
}

-- what holds in a history is what holds where the leaves are read as certain answers
abbrev pub HoldingIsAReading : Type 0
HoldingIsAReading =
    (inclusions : List Inclusion) (history : History) (row : List IndId) (f : Formula) (i : ℕ)
    → Holds inclusions history row f i
    ↔ HoldsBy (certainly inclusions history) (length history.snapshots) row f i

-- what holds in a history holds in each sequence of models
abbrev pub HoldsInModels : (E : ℕ → Type 0) → ((i : ℕ) → Interpretation (E i)) → Type 0
HoldsInModels E I =
    (inclusions : List Inclusion) (clashes : List Clash) (history : History) (row : List IndId)
    (f : Formula) (i : ℕ)
    → AreModels E I inclusions clashes history
    → i < length history.snapshots
    → Holds inclusions history row f i
    → HoldsIn E I (length history.snapshots) row f i

-- a history of consistent snapshots has a sequence of models in which exactly what holds in it
-- holds
abbrev pub HasExactModels : Type 0
HasExactModels =
    (inclusions : List Inclusion) (clashes : List Clash) (history : History)
    → AreConsistent inclusions clashes history
    → (lists : ℕ → ℕ → List Fact) × AreExact inclusions clashes history lists

-- a formula holds in such a history exactly where it holds in each sequence of models that lists
-- name
abbrev pub HoldsInAllModels : Type 0
HoldsInAllModels =
    (inclusions : List Inclusion) (clashes : List Clash) (history : History) (row : List IndId)
    (f : Formula) (i : ℕ)
    → AreConsistent inclusions clashes history
    → i < length history.snapshots
    → Holds inclusions history row f i ↔ HoldsInAll inclusions clashes history row f i

-- the answers after such a history are the rows for which the root holds in each of those sequences
abbrev pub AnswersAreCommon : Type 0
AnswersAreCommon =
    (inclusions : List Inclusion) (clashes : List Clash) (count : ℕ) (query : Tcq)
    (history : History) (rows : List (List IndId))
    → AreConsistent inclusions clashes history
    → AreAnswers inclusions count query history rows
    ↔ AreCommonAnswers inclusions clashes (individuals_of count history) query history rows

-- a history's snapshots, over individuals, are consistent exactly where it has a sequence of models
-- that lists name
abbrev pub ConsistentHaveModels : Type 0
ConsistentHaveModels =
    (inclusions : List Inclusion) (clashes : List Clash) (history : History)
    → All (All HasNoNull) history.snapshots
    → All (IsConsistent inclusions clashes) history.snapshots
    ↔ ((lists : ℕ → ℕ → List Fact)
    × AreModels (steady Element) (all_united lists) inclusions clashes history)

-- each history that may come is of consistent snapshots
abbrev pub HistoriesAreConsistent : Type 0
HistoriesAreConsistent =
    (o : Declared) (queries : List Tcq) (history : History)
    → IsHistory o queries history
    → AreConsistent o.inclusions o.clashes history

-- so the answers after one are those rows
abbrev pub HistoriesAnswersAreCommon : Type 0
HistoriesAnswersAreCommon =
    (o : Declared) (queries : List Tcq) (query : Tcq) (history : History) (rows : List (List IndId))
    → IsHistory o queries history
    → AreAnswers o.inclusions (length o.individuals) query history rows
    ↔ AreCommonAnswers o.inclusions o.clashes (individuals_of (length o.individuals) history)
    query history rows

-- with more inclusions, and more facts at each position, what holds goes on holding
abbrev pub MoreKeepsHolding : Type 0
MoreKeepsHolding =
    (inclusions more_inclusions : List Inclusion) (history more_history : History)
    (row : List IndId) (f : Formula) (i : ℕ)
    → All (All HasNoNull) history.snapshots
    → length history.snapshots ≡ length more_history.snapshots
    → IsPartOf inclusions more_inclusions
    → ((j : ℕ) → IsPartOf (snapshot_at history j) (snapshot_at more_history j))
    → i < length history.snapshots
    → Holds inclusions history row f i
    → Holds more_inclusions more_history row f i

-- entailed inclusions change nothing
abbrev pub EntailedKeepHolding : Type 0
EntailedKeepHolding =
    (inclusions others : List Inclusion) (history : History) (row : List IndId) (f : Formula)
    (i : ℕ)
    → All (All HasNoNull) history.snapshots
    → Entails inclusions others
    → i < length history.snapshots
    → Holds (inclusions ++ others) history row f i ↔ Holds inclusions history row f i
