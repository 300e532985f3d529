-- The opening: what the sources of a job say, or why they can't be used, in the order of opening.
use Rattle.std.specs.Prelude.{◌≡◌, ◌⊎◌, ℕ, Bool, false, List, Option}
use Rattle.dl_syntax.specs.Ontology.{Declared}
use Rattle.tcq_syntax.specs.Histories.{empty_history}
use Rattle.edge_io.specs.Causes.{Rose}
use Rattle.edge_io.specs.Held.{Store, Lacks}
use Rattle.tcq_reader.specs.declared.faults.QueryKind.{QueryKind}
use Rattle.tcq_reader.specs.Reading.{SaysQueries, IsFault}
use Rattle.monitor_core.specs.Opening.{HasMoreRewritings}
use Rattle.monitor_core.specs.Setting.{Setting}
use Rattle.monitor_core.specs.Keeping.{Monitored}
use Rattle.monitor_core.specs.Standing.{Stands, setting_of}
use Rattle.report_text.specs.Names.{AreSpelled}
use Rattle.stream_report.specs.declared.ending.Ending.{Ending}
use Rattle.stream_report.specs.declared.ending.Ending.TheVariants.{Refused, ReadFault, Memory}
use Rattle.stream_report.specs.Outside.{FilesTold}
use Rattle.job_sources.specs.declared.refusal.Refusal.{Refusal}
use Rattle.job_sources.specs.declared.refusal.Refusal.TheVariants.{BadOntology, TooManyRewritings}
use Rattle.job_sources.specs.declared.refusal.Refusal.TheVariants.{BadDocument, BadQueries}
use Rattle.job_sources.specs.declared.refusal.Refusal.TheVariants.{NotALeaf, TooLarge}
use Rattle.job_sources.specs.FileNames.{FileNames}
use Rattle.job_sources.specs.OntologyForms.{SaysAs, IsFaultyAs}
use Rattle.job_sources.specs.Opening.{HasText, Is}

-- ---- the texts of the ontology and of the queries, each told by what it has to be, and whether
-- the ontology is an OWL 2 document

-- both have no fault, and say this
pub record Says (owl : Bool) (is_ontology is_queries : List ℕ
    → Type 0) (setting : Setting) : Type 0 where
  pub ontology : List ℕ
  pub ontology_is : is_ontology ontology
  pub ontology_says : SaysAs owl ontology setting.ontology
  pub queries : List ℕ
  pub queries_is : is_queries queries
  pub queries_say : SaysQueries setting.ontology queries setting.queries

-- the ontology's text has this first fault
pub record HasOntologyFault (owl : Bool) (is_ontology : List ℕ
    → Type 0) (refusal : Refusal) : Type 0 where
  pub text : List ℕ
  pub is : is_ontology text
  pub fault : IsFaultyAs owl text refusal

-- the ontology's text has no fault, and says this
pub record SaysOntology (owl : Bool) (is_ontology : List ℕ
    → Type 0) (ontology : Declared) : Type 0 where
  pub text : List ℕ
  pub is : is_ontology text
  pub says : SaysAs owl text ontology

-- the ontology's text has no fault, and the queries' text has this first one
pub record HasQueriesFault (owl : Bool) (is_ontology is_queries : List ℕ
    → Type 0) (line : ℕ) (kind : QueryKind) : Type 0 where
  pub ontology : Declared
  pub says : SaysOntology owl is_ontology ontology
  pub text : List ℕ
  pub is : is_queries text
  pub fault : IsFault ontology text line kind

-- the texts have a fault, and this is the first
abbrev pub AreFaulty : Bool → (List ℕ → Type 0) → (List ℕ → Type 0) → Refusal → Type 0
AreFaulty owl is_ontology is_queries (BadOntology line kind) =
    HasOntologyFault owl is_ontology (BadOntology line kind)
AreFaulty owl is_ontology is_queries (BadDocument line kind) =
    HasOntologyFault owl is_ontology (BadDocument line kind)
AreFaulty owl is_ontology is_queries (BadQueries line kind) =
    HasQueriesFault owl is_ontology is_queries line kind
AreFaulty owl is_ontology is_queries TooManyRewritings = ⊥
AreFaulty owl is_ontology is_queries (NotALeaf name) = ⊥
AreFaulty owl is_ontology is_queries (TooLarge total) = ⊥

-- ---- what a job takes of what they say

-- the leaves and the clashes reach more queries than may be, each leaf's and each clash's counted
-- by themselves
abbrev pub AreTooMany : Setting → Type 0
AreTooMany setting = HasMoreRewritings setting.ontology setting.queries 1048576

-- a job that refuses nothing by itself
abbrev pub nothing_more : Setting → Refusal → Type 0
nothing_more setting refusal = ⊥

-- the job has no refusal of its own for this
abbrev pub IsTaken : (Setting → Refusal → Type 0) → Setting → Type 0
IsTaken own setting = (refusal : Refusal) → ¬ own setting refusal

-- the job's own refusal, or else that too many queries are reached
abbrev pub IsRefused : (Setting → Refusal → Type 0) → Setting → Ending Refusal → Type 0
IsRefused own setting (Refused refusal) =
    own setting refusal ⊎ ((refusal ≡ TooManyRewritings) × IsTaken own setting × AreTooMany setting)
IsRefused own setting Memory = Unit {0}
IsRefused own setting _ = ⊥

-- ---- the opening

-- the sources say this, the job takes it, and it reaches no more queries than may be
pub record Opens (own : Setting → Refusal → Type 0) (says : Setting
    → Type 0) (setting : Setting) : Type 0 where
  pub say : says setting
  pub taken : IsTaken own setting
  pub few : ¬ AreTooMany setting

-- the sources weren't read, or what they say is refused
abbrev pub OpeningFails : (Setting → Refusal → Type 0) → (Setting → Type 0)
    → (Ending Refusal → Type 0) → Ending Refusal → Type 0
OpeningFails own says unread ending =
    unread ending ⊎ ((setting : Setting) × says setting × IsRefused own setting ending)

-- what the files of these names say
abbrev pub FilesSay : Option Store → FileNames → Setting → Type 0
FilesSay held names setting =
    Says names.owl (HasText held names.ontology) (HasText held names.queries) setting

-- a file wasn't fetched. The queries' file counts only after an ontology without a fault
abbrev pub IsUnfetched : FilesTold → FilesTold → FileNames → Type 0
IsUnfetched before now names =
    Rose before.faults now.faults
    ⊎ Lacks before.held names.ontology
    ⊎ (((ontology : Declared)
    × SaysOntology names.owl (HasText before.held names.ontology) ontology)
    × Lacks before.held names.queries)

-- why files weren't read
abbrev pub FilesUnread : FilesTold → FilesTold → FileNames → Ending Refusal → Type 0
FilesUnread before now names (Refused refusal) =
    AreFaulty names.owl (HasText before.held names.ontology) (HasText before.held names.queries)
    refusal
FilesUnread before now names ReadFault = IsUnfetched before now names
FilesUnread before now names Memory = Unit {0}
FilesUnread before now names _ = ⊥

-- why these texts weren't read, of which the ontology's is in its own form
abbrev pub TextsUnread : List ℕ → List ℕ → Ending Refusal → Type 0
TextsUnread ontology queries (Refused refusal) = AreFaulty false (Is ontology) (Is queries) refusal
TextsUnread ontology queries Memory = Unit {0}
TextsUnread ontology queries _ = ⊥

-- ---- what parts of the opening answer

-- a fetch of this name failed
abbrev pub IsFetchRefused : FilesTold → FilesTold → List ℕ → Ending Refusal → Type 0
IsFetchRefused before now name ReadFault = Rose before.faults now.faults ⊎ Lacks before.held name
IsFetchRefused before now name Memory = Unit {0}
IsFetchRefused before now name _ = ⊥

-- the run ends at a fault of the ontology's text
abbrev pub IsOntologyAtFault : Bool → List ℕ → Ending Refusal → Type 0
IsOntologyAtFault owl text (Refused refusal) = IsFaultyAs owl text refusal
IsOntologyAtFault owl text Memory = Unit {0}
IsOntologyAtFault owl text _ = ⊥

-- the run ends at a fault of the queries' text
abbrev pub AreQueriesAtFault : Declared → List ℕ → Ending Refusal → Type 0
AreQueriesAtFault ontology text (Refused (BadQueries line kind)) = IsFault ontology text line kind
AreQueriesAtFault ontology text Memory = Unit {0}
AreQueriesAtFault ontology text _ = ⊥

-- the monitor is the one of what the sources say, before any snapshot, where names may come
pub record Opened (says : Setting → Type 0) (monitor : Monitored) : Type 0 where
  pub opens : Opens nothing_more says (setting_of monitor)
  pub stands : Stands monitor (empty_history false)
  pub spelled : AreSpelled (setting_of monitor).queries
