-- What a run did to the objects that it was handed, by how it ended.
use Rattle.std.specs.Prelude.{◌≡◌, ◌⊎◌, List, ℕ, None, Some}
use Rattle.edge_io.specs.Causes.{Rose}
use Rattle.edge_io.specs.Known.{Gains, IsFront}
use Rattle.command_words.specs.declared.request.FilesCommand.TheVariants.{Rewrite, Contain, Audit}
use Rattle.command_words.specs.declared.request.FilesCommand.TheVariants.{Explain, Verify, Streams}
use Rattle.command_words.specs.Meanings.{Meaning, meaning_of_words}
use Rattle.stream_report.specs.declared.ending.Ending.{Ending}
use Rattle.stream_report.specs.declared.ending.Ending.TheVariants.{Usage, Memory}
use Rattle.stream_report.specs.Outside.{SinkTold, Outside}
use Rattle.job_sources.specs.declared.refusal.Refusal.{Refusal}
use Rattle.job_sources.specs.FileNames.{FileNames}
use Rattle.rewriting_text.specs.Ends.{RewriteEnds}
use Rattle.containment_text.specs.Ends.{ContainEnds}
use Rattle.watch_report.specs.Ends.{WatchEnds, DrillEnds}
use Rattle.audit_report.specs.Ends.{AuditEnds}
use Rattle.explain_report.specs.Ends.{ExplainEnds}
use Rattle.verify_report.specs.Ends.{VerifyEnds}
use Rattle.streams_report.specs.Ends.{StreamsEnds}
use Rattle.monitor_run.specs.declared.status.Status.{Status}
use Rattle.monitor_run.specs.declared.jobs.Job.{Job}
use Rattle.monitor_run.specs.declared.jobs.Job.TheVariants.{Watch, OnFiles}
use Rattle.monitor_run.specs.Ends.{status_of, line_of}
use Rattle.monitor_run.specs.Jobs.{Asked, on_files, drill, asked_by}

-- how each job ended
abbrev pub JobEnds : Job → FileNames → Ending Refusal → Outside → Outside → Type 0
JobEnds (Watch options) names ending before now = WatchEnds options names ending before now
JobEnds (OnFiles Rewrite) names ending before now = RewriteEnds names ending before now
JobEnds (OnFiles Contain) names ending before now = ContainEnds names ending before now
JobEnds (OnFiles Audit) names ending before now = AuditEnds names ending before now
JobEnds (OnFiles Explain) names ending before now = ExplainEnds names ending before now
JobEnds (OnFiles Verify) names ending before now = VerifyEnds names ending before now
JobEnds (OnFiles Streams) names ending before now = StreamsEnds names ending before now

-- how what is asked for ended. A drill touches no file
abbrev pub AskedEnds : Asked → Ending Refusal → Outside → Outside → Type 0
AskedEnds (on_files names job) ending before now = JobEnds job names ending before now
AskedEnds (drill seed count) ending before now =
    (now.files ≡ before.files) × DrillEnds seed count ending before.ports now.ports

-- the words mean this, and it was done
pub record Performed (ending : Ending Refusal) (words : List (List ℕ)) (before now : Outside) : Type
    0 where
  pub means : Meaning
  pub words_mean : meaning_of_words words ≡ Some means
  pub ends : AskedEnds (asked_by means) ending before now

-- how a run of these words ended
abbrev pub RunEnds : Ending Refusal → List (List ℕ) → Outside → Outside → Type 0
RunEnds Usage words before now = (meaning_of_words words ≡ None) × (now ≡ before)
RunEnds Memory words before now = (now ≡ before) ⊎ Performed Memory words before now
RunEnds ending words before now = Performed ending words before now

-- the error sink gained a beginning of the line, and all of it unless its count of faults rose
pub record Says (before now : SinkTold) (line : List ℕ) : Type 0 where
  pub wrote : List ℕ
  pub gains : Gains before.got now.got wrote
  pub front : IsFront wrote line
  pub whole : (wrote ≡ line) ⊎ Rose before.faults now.faults

-- how a run ended, and what it said of it on the error sink
pub record Ran (status : Status) (words : List (List ℕ)) (before now : Outside)
    (err_before err_now : SinkTold) : Type 0 where
  pub ending : Ending Refusal
  pub status_is : status ≡ status_of ending
  pub ends : RunEnds ending words before now
  pub says : Says err_before err_now (line_of ending)
