-- Laws of runs.
use Rattle.std.specs.Prelude.{◌≡◌, ◌≢◌, ◌⊎◌, ◌↔◌, ℕ, ◌<◌, ◌≤◌, ◌^◌, List, ◌++◌, Some}
use Rattle.std.specs.Prelude.{length}
use Rattle.edge_io.specs.Causes.{Rose}
use Rattle.edge_io.specs.Held.{Store}
use Rattle.edge_io.specs.Lines.{whole_items}
use Rattle.command_words.specs.declared.request.FilesCommand.{FilesCommand}
use Rattle.command_words.specs.declared.request.FilesCommand.TheVariants.{Rewrite, Contain}
use Rattle.command_words.specs.declared.request.FilesCommand.TheVariants.{Streams}
use Rattle.command_words.specs.Meanings.{Watching, watch, drill, meaning_of_words}
use Rattle.monitor_core.specs.Setting.{Setting}
use Rattle.stream_report.specs.Told.{Part}
use Rattle.stream_report.specs.Outside.{SinkTold, Outside}
use Rattle.monitor_run.specs.declared.status.Status.{Status}
use Rattle.monitor_run.specs.declared.status.Status.TheVariants.{Done, Usage, BadOntology}
use Rattle.monitor_run.specs.declared.status.Status.TheVariants.{BadQueries, Memory, StreamLimit}
use Rattle.job_sources.specs.declared.refusal.Refusal.{Refusal}
use Rattle.containment_text.specs.Containments.{refuses_no_leaf}
use Rattle.streams_report.specs.Opening.{refuses_large}
use Rattle.job_sources.specs.FileNames.{FileNames}
use Rattle.watch_report.specs.Report.{start, watching}
use Rattle.monitor_run.specs.Jobs.{command_on, options_of}
use Rattle.watch_report.specs.Drill.{MadeSay}
use Rattle.monitor_run.specs.Running.{Ran}
use Rattle.job_sources.specs.Sources.{nothing_more, Opens, FilesSay}

-- the run ended well, or found no memory
abbrev pub IsDone : Status → Type 0
IsDone status = (status ≡ Done) ⊎ (status ≡ Memory)

-- the files of these names have no fault, a job that refuses so by itself takes what they say, they
-- reach no more than may be, and neither they nor the output had a fault
pub record HasGoodFiles (own : Setting → Refusal
    → Type 0) (names : FileNames) (before now : Outside) : Type 0 where
  pub files : Store
  pub held : before.files.held ≡ Some files
  pub setting : Setting
  pub opens : Opens own (FilesSay before.files.held names) setting
  pub no_file_fault : ¬ Rose before.files.faults now.files.faults
  pub no_write_fault : ¬ Rose before.ports.out.faults now.ports.out.faults

-- what the input has is within its limit, and its count did not rise either
pub record HasGoodInput (before now : Outside) : Type 0 where
  pub stream : List ℕ
  pub left : before.ports.input.left ≡ Some stream
  pub short : length stream ≤ 2 ^ 40
  pub no_read_fault : ¬ Rose before.ports.input.faults now.ports.input.faults

-- the words are of a watch of such files and such an input
pub record IsGood (words : List (List ℕ)) (before now : Outside) : Type 0 where
  pub asked : Watching
  pub words_mean : meaning_of_words words ≡ Some (watch asked)
  pub files : HasGoodFiles nothing_more (record {
    ontology = asked.ontology;
    queries =
        asked.queries;
    owl = asked.owl;
  }) before now
  pub input : HasGoodInput before now

-- what a command on files refuses by itself of what they say
abbrev pub refusals_of : FilesCommand → Setting → Refusal → Type 0
refusals_of Contain = refuses_no_leaf
refusals_of Streams = refuses_large
refusals_of _ = nothing_more

-- the input is such a one, but for the commands that read none
abbrev pub HasGoodInputFor : FilesCommand → Outside → Outside → Type 0
HasGoodInputFor Rewrite before now = Unit {0}
HasGoodInputFor Contain before now = Unit {0}
HasGoodInputFor _ before now = HasGoodInput before now

-- the words are of a command on such files and, where it reads the input, such an input
pub record IsGoodCommand (words : List (List ℕ)) (before now : Outside) : Type 0 where
  pub command : FilesCommand
  pub names : FileNames
  pub words_mean : meaning_of_words words ≡ Some (command_on command names)
  pub files : HasGoodFiles (refusals_of command) names before now
  pub input : HasGoodInputFor command before now

-- the words are of a drill, what it makes reaches no more than may be, and the output had no fault
pub record IsGoodDrill (words : List (List ℕ)) (before now : Outside) : Type 0 where
  pub seed : ℕ
  pub count : ℕ
  pub words_mean : meaning_of_words words ≡ Some (drill seed count)
  pub setting : Setting
  pub opens : Opens nothing_more MadeSay setting
  pub no_write_fault : ¬ Rose before.ports.out.faults now.ports.out.faults

-- where nothing fails a watch is done, but for want of memory
abbrev pub Completeness : Type 0
Completeness =
    (status : Status) (words : List (List ℕ)) (before now : Outside) (err_before err_now : SinkTold)
    →
    Ran status words before now err_before err_now → IsGood words before now → IsDone status

-- so is each command on files
abbrev pub CommandCompleteness : Type 0
CommandCompleteness =
    (status : Status) (words : List (List ℕ)) (before now : Outside) (err_before err_now : SinkTold)
    →
    Ran status words before now err_before err_now → IsGoodCommand words before now
    → IsDone status

-- and a drill
abbrev pub DrillCompleteness : Type 0
DrillCompleteness =
    (status : Status) (words : List (List ℕ)) (before now : Outside) (err_before err_now : SinkTold)
    →
    Ran status words before now err_before err_now → IsGoodDrill words before now → IsDone status

-- a drill leaves the files and the input as they were
abbrev pub DrillLeaves : Type 0
DrillLeaves =
    (status : Status) (words : List (List ℕ)) (before now : Outside) (err_before err_now : SinkTold)
    (seed count : ℕ) →
    Ran status words before now err_before err_now
    → meaning_of_words words ≡ Some (drill seed count) →
    (now.files ≡ before.files) × (now.ports.input ≡ before.ports.input)

-- a rewriting and a test of containment read no input
abbrev pub ReadsNoInput : FilesCommand → Type 0
ReadsNoInput Rewrite = Unit {0}
ReadsNoInput Contain = Unit {0}
ReadsNoInput _ = ⊥

-- so they leave it as it was
abbrev pub InputStays : Type 0
InputStays =
    (status : Status) (words : List (List ℕ)) (before now : Outside) (err_before err_now : SinkTold)
    (command : FilesCommand) (names : FileNames) → ReadsNoInput command →
    Ran status words before now err_before err_now
    → meaning_of_words words ≡ Some (command_on command names) →
    now.ports.input ≡ before.ports.input

-- words of no command leave everything as it was
abbrev pub UsageLeaves : Type 0
UsageLeaves =
    (words : List (List ℕ)) (before now : Outside) (err_before err_now : SinkTold) →
    Ran Usage words before now err_before err_now → now ≡ before

-- a run whose sources are refused leaves the files, the input and the output as they were
abbrev pub RefusalLeaves : Type 0
RefusalLeaves =
    (status : Status) (words : List (List ℕ)) (before now : Outside) (err_before err_now : SinkTold)
    →
    Ran status words before now err_before err_now → (status ≡ BadOntology) ⊎ (status ≡ BadQueries)
    →
    (now.files ≡ before.files) × (now.ports.input ≡ before.ports.input)
    × (now.ports.out ≡ before.ports.out)

-- a watch whose files, input and output are told took these bytes and wrote these
pub record Watches (words : List (List ℕ)) (before now : Outside) (taken wrote : List ℕ) : Type 0
  where
    pub asked : Watching
    pub words_mean : meaning_of_words words ≡ Some (watch asked)
    pub files : Store
    pub held : before.files.held ≡ Some files
    pub setting : Setting
    pub opens : Opens nothing_more (FilesSay before.files.held (record {
      ontology =
          asked.ontology;
      queries = asked.queries;
      owl = asked.owl;
    })) setting
    pub left : List ℕ
    pub input_before : before.ports.input.left ≡ Some (taken ++ left)
    pub input_now : now.ports.input.left ≡ Some left
    pub got : List ℕ
    pub out_before : before.ports.out.got ≡ Some got
    pub out_now : now.ports.out.got ≡ Some (got ++ wrote)

-- it ends at the limit exactly where more was taken and the report of the complete lines was
-- written, but for want of memory
abbrev pub LimitComesExactly : Type 0
LimitComesExactly =
    (status : Status) (words : List (List ℕ)) (before now : Outside) (err_before err_now : SinkTold)
    (taken wrote : List ℕ) →
    Ran status words before now err_before err_now → (w : Watches words before now taken wrote)
    → status ≢ Memory →
    ((status ≡ StreamLimit)
    ↔ ((2 ^ 40 < length taken)
    × Part (watching (record { setting = w.setting; options = options_of w.asked })) start
    (whole_items taken) wrote))
