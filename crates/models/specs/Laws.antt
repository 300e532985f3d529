-- Laws of models and runs, each in the words of its own statement.
use Rattle.std.specs.Prelude.{◌≡◌, ℕ, List, ◌++◌, ◌↔◌, suc}
use Rattle.std.specs.List.{Contains}
use Rattle.dl_syntax.specs.declared.names.IndId.{IndId}
use Rattle.dl_syntax.specs.declared.facts.Element.{Element}
use Rattle.dl_syntax.specs.declared.facts.Element.TheVariants.{Ind as ind_element}
use Rattle.dl_syntax.specs.declared.facts.Fact.{Fact}
use Rattle.dl_syntax.specs.declared.facts.Fact.TheVariants as fact
use Rattle.dl_syntax.specs.declared.ontology.Inclusion.{Inclusion}
use Rattle.dl_syntax.specs.declared.ontology.Clash.{Clash}
use Rattle.dl_syntax.specs.declared.queries.Cq.{Cq}
use Rattle.dl_syntax.specs.Facts.{HasNoNull}
use Rattle.dl_syntax.specs.Chase.{Run, Chase, Step, IsConsistent, made_by}
use Rattle.dl_syntax.specs.Match.{Certain}
use Rattle.models.specs.Containment.{CertainInOne}
use Rattle.models.specs.Models.{Interpretation, IsModel, Holds, MapsInto, Answers}

-- each run of a snapshot maps into each model of it
abbrev pub RunsMapInto : {E : Type 0} → Interpretation E → Type 0
RunsMapInto I = (inclusions : List Inclusion) (clashes : List Clash) (snapshot run : List Fact)
    → IsModel I inclusions clashes snapshot → Run inclusions snapshot run → MapsInto run I

-- each certain tuple is an answer in each model
abbrev pub CertainAnswersHoldIn : {E : Type 0} → Interpretation E → Type 0
CertainAnswersHoldIn I =
    (inclusions : List Inclusion) (clashes : List Clash) (snapshot : List Fact) (q : Cq)
    (row : List IndId) → IsModel I inclusions clashes snapshot → Certain inclusions q snapshot row
    → Answers I q row

-- a snapshot with a model is consistent
abbrev pub ModelsShowConsistency : {E : Type 0} → Interpretation E → Type 0
ModelsShowConsistency I =
    (inclusions : List Inclusion) (clashes : List Clash) (snapshot : List Fact)
    → IsModel I inclusions clashes snapshot → IsConsistent inclusions clashes snapshot

-- the elements and facts of a list, where each individual is the element that the map gives
abbrev pub listed : (IndId → Element) → List Fact → Interpretation Element
listed h facts = record {
  individual = h;
  concept = λ c e. Contains facts (fact.Concept c e);
  role = λ p x y. Contains facts (fact.Role p x y);
}

-- a run of the other snapshot that goes on from the one given, and into which the run maps,
-- individuals as given
pub record MapsAlong (inclusions : List Inclusion) (h : IndId → Element)
    (run other_snapshot : List Fact) (other_steps : List Step) (other : List Fact) : Type 0 where
  pub steps : List Step
  pub longer : List Fact
  pub is_run : Chase inclusions other_snapshot steps longer
  pub steps_go_on : (later : List Step) × (steps ≡ other_steps ++ later)
  pub goes_on : (more : List Fact) × (longer ≡ other ++ more)
  pub maps : MapsInto run (listed h longer)

-- where a map of individuals sends the facts of a snapshot into a run of another, each run of the
-- one maps into a run that goes on from that of the other
abbrev pub RunsMapAlong : Type 0
RunsMapAlong =
    (inclusions : List Inclusion) (snapshot other_snapshot run other : List Fact)
    (other_steps : List Step) (h : IndId → Element)
    → ((f : Fact) → Contains snapshot f → Holds (listed h other) f)
    → Chase inclusions other_snapshot other_steps other
    → Run inclusions snapshot run
    → MapsAlong inclusions h run other_snapshot other_steps other

-- with that, each certain tuple of the one is an answer in a run that goes on from that of the
-- other
abbrev pub CertainAnswersMapAlong : Type 0
CertainAnswersMapAlong =
    (inclusions : List Inclusion) (snapshot other_snapshot other : List Fact) (h : IndId → Element)
    (q : Cq) (row : List IndId)
    → ((f : Fact) → Contains snapshot f → Holds (listed h other) f)
    → Run inclusions other_snapshot other
    → Certain inclusions q snapshot row
    → (more : List Fact) × Run inclusions other_snapshot (other ++ more)
    × Answers (listed h (other ++ more)) q row

-- and where the other is consistent, so is the one
abbrev pub ClashesMapAlong : Type 0
ClashesMapAlong =
    (inclusions : List Inclusion) (clashes : List Clash) (snapshot other_snapshot other : List Fact)
    (h : IndId → Element)
    → ((f : Fact) → Contains snapshot f → Holds (listed h other) f)
    → Run inclusions other_snapshot other
    → IsConsistent inclusions clashes other_snapshot
    → IsConsistent inclusions clashes snapshot

-- runs of which each goes on from the one before, in which each inclusion is at last applied to
-- each fact
pub record IsFair (inclusions : List Inclusion) (snapshot : List Fact) (runs : ℕ → List Fact) : Type
    0 where
  pub starts : runs 0 ≡ snapshot
  pub are_runs : (n : ℕ) → Run inclusions snapshot (runs n)
  pub goes_on : (n : ℕ) → (more : List Fact) × (runs (suc n) ≡ runs n ++ more)
  pub applied : (n : ℕ) (i : Inclusion) (f : Fact) → Contains inclusions i → Contains (runs n) f
      → (m place : ℕ) × ((g : Fact) → Contains (made_by i f place) g → Contains (runs m) g)

-- the facts of all of the lists, each element itself
abbrev pub united : (ℕ → List Fact) → Interpretation Element
united runs = record {
  individual = ind_element;
  concept = λ c e. (n : ℕ) × Contains (runs n) (fact.Concept c e);
  role = λ p x y. (n : ℕ) × Contains (runs n) (fact.Role p x y);
}

-- each snapshot has fair runs
abbrev pub HasFairRuns : Type 0
HasFairRuns = (inclusions : List Inclusion) (snapshot : List Fact) → (runs : ℕ → List Fact)
    × IsFair inclusions snapshot runs

-- the facts of fair runs of a consistent snapshot are a model of it
abbrev pub FairRunsAreModel : Type 0
FairRunsAreModel =
    (inclusions : List Inclusion) (clashes : List Clash) (snapshot : List Fact)
    (runs : ℕ → List Fact)
    → ((f : Fact) → Contains snapshot f → HasNoNull f)
    → IsFair inclusions snapshot runs
    → IsConsistent inclusions clashes snapshot
    → IsModel (united runs) inclusions clashes snapshot

-- the answers in the facts of fair runs are exactly the certain tuples
abbrev pub FairRunsAnswerExactly : Type 0
FairRunsAnswerExactly =
    (inclusions : List Inclusion) (snapshot : List Fact) (runs : ℕ → List Fact) (q : Cq)
    (row : List IndId)
    → ((f : Fact) → Contains snapshot f → HasNoNull f)
    → IsFair inclusions snapshot runs
    → Answers (united runs) q row ↔ Certain inclusions q snapshot row

-- a consistent snapshot has a model in which the answers are exactly the certain tuples
abbrev pub HasExactModel : Type 0
HasExactModel =
    (inclusions : List Inclusion) (clashes : List Clash) (snapshot : List Fact)
    → ((f : Fact) → Contains snapshot f → HasNoNull f)
    → IsConsistent inclusions clashes snapshot
    → (runs : ℕ → List Fact) × IsModel (united runs) inclusions clashes snapshot
    × ((q : Cq) (row : List IndId) → Answers (united runs) q row
    ↔ Certain inclusions q snapshot row)

-- a snapshot is consistent exactly where it has a model whose facts a sequence of lists names
abbrev pub ConsistentHasModel : Type 0
ConsistentHasModel =
    (inclusions : List Inclusion) (clashes : List Clash) (snapshot : List Fact)
    → ((f : Fact) → Contains snapshot f → HasNoNull f)
    → IsConsistent inclusions clashes snapshot
    ↔ ((lists : ℕ → List Fact) × IsModel (united lists) inclusions clashes snapshot)

-- the certain tuples of a consistent snapshot are exactly the answers in all such models
abbrev pub CertainIsInAllModels : Type 0
CertainIsInAllModels =
    (inclusions : List Inclusion) (clashes : List Clash) (snapshot : List Fact) (q : Cq)
    (row : List IndId)
    → ((f : Fact) → Contains snapshot f → HasNoNull f)
    → IsConsistent inclusions clashes snapshot
    → Certain inclusions q snapshot row
    ↔ ((lists : ℕ → List Fact) → IsModel (united lists) inclusions clashes snapshot
    → Answers (united lists) q row)

-- a row is an answer of one of the queries in each such model exactly where it is a certain tuple
-- of one of them
abbrev pub AnswersAreUnions : Type 0
AnswersAreUnions =
    (inclusions : List Inclusion) (clashes : List Clash) (snapshot : List Fact) (queries : List Cq)
    (row : List IndId)
    → ((f : Fact) → Contains snapshot f → HasNoNull f)
    → IsConsistent inclusions clashes snapshot
    → CertainInOne inclusions queries snapshot row
    ↔ ((lists : ℕ → List Fact) → IsModel (united lists) inclusions clashes snapshot → (q : Cq)
    × Contains queries q × Answers (united lists) q row)

-- a snapshot with a model of finitely many facts is consistent
abbrev pub FiniteModelsShowConsistency : Type 0
FiniteModelsShowConsistency =
    (inclusions : List Inclusion) (clashes : List Clash) (snapshot : List Fact)
    (h : IndId → Element) (facts : List Fact)
    → IsModel (listed h facts) inclusions clashes snapshot
    → IsConsistent inclusions clashes snapshot
