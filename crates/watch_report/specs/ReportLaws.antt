-- Laws of what is told of lines, and of reports.
use Rattle.std.specs.Prelude.{◌≡◌, ℕ, List, map}
use Rattle.tcq_syntax.specs.Accepted.{IsHistory}
use Rattle.tcq_syntax.specs.Histories.{History}
use Rattle.edge_io.specs.Lines.{Item as StreamLine}
use Rattle.report_text.specs.declared.event.Event.{Event}
use Rattle.report_text.specs.declared.event.Event.TheVariants.{Accepted, Declared, Refused, End}
use Rattle.forms.specs.declared.StreamForm.{StreamForm}
use Rattle.monitor_core.specs.Keeping.{Monitored}
use Rattle.monitor_core.specs.Setting.{Setting}
use Rattle.monitor_core.specs.Standing.{Stands}
use Rattle.stream_report.specs.declared.ending.Ending.{Ending}
use Rattle.stream_report.specs.Ends.{StreamedTo}
use Rattle.stream_report.specs.Laws as streams
use Rattle.stream_report.specs.Outside.{Ports}
use Rattle.stream_maker.specs.Snapshots.{stream_text}
use Rattle.job_sources.specs.declared.refusal.Refusal.{Refusal}
use Rattle.watch_report.specs.declared.options.Options.{Options}
use Rattle.watch_report.specs.Drill.{IsDrill, MadeSay}
use Rattle.watch_report.specs.Monitoring.{monitoring, watched_from}
use Rattle.watch_report.specs.Outcome.{Outcome, HasOutcome}
use Rattle.stream_report.specs.Told.{Told}
use Rattle.watch_report.specs.Report.{Standing, standing_at, watches, watching}
use Rattle.job_sources.specs.Sources.{nothing_more, Opens}
use Rattle.watch_report.specs.Task.{Task, task_of}
use Rattle.watch_report.specs.Told.{TellsLine}

-- a line has one outcome after a history
abbrev pub OneOutcome : Type 0
OneOutcome =
    (setting : Setting) (history : History) (form : StreamForm) (item : StreamLine)
    (one other : Outcome) →
    HasOutcome setting history form item one → HasOutcome setting history form item other →
    one ≡ other

-- the history after a line is one of the ontology and the queries where that before it is
abbrev pub HistoriesGoOn : Type 0
HistoriesGoOn =
    (task : Task) (history : History) (number : ℕ) (line : StreamLine) (told : List Event)
    (after : History) →
    IsHistory task.setting.ontology task.setting.queries history →
    TellsLine task history number line told after →
    IsHistory task.setting.ontology task.setting.queries after

-- and so is the one after any lines
abbrev pub HistoriesAreTold : Type 0
HistoriesAreTold =
    (task : Task) (lines : List StreamLine) (number : ℕ) (before after : Standing)
    (told : List ℕ) →
    IsHistory task.setting.ontology task.setting.queries before.history →
    Told (watches task) lines number before told after →
    IsHistory task.setting.ontology task.setting.queries after.history

-- one thing is told of a line, and one history comes after it
abbrev pub OneLine : Type 0
OneLine =
    (task : Task) (history : History) (number : ℕ) (line : StreamLine)
    (one other : List Event) (after later : History) →
    TellsLine task history number line one after → TellsLine task history number line other later →
    (one ≡ other) × (after ≡ later)

-- one text is told of the same lines, and one history comes after them
abbrev pub OneTold : Type 0
OneTold = (task : Task) → streams.OneTold (watches task)

-- what is told of lines joined is what is told of the first and then of the others
abbrev pub ToldJoined : Type 0
ToldJoined = (task : Task) → streams.ToldJoined (watches task)

-- and nothing else is told of lines joined
abbrev pub ToldParts : Type 0
ToldParts = (task : Task) → streams.ToldParts (watches task)

-- the report of the same lines is one text
abbrev pub OneReport : Type 0
OneReport = (task : Task) → streams.OneReport (watching task)

-- so is the report of complete lines
abbrev pub OnePart : Type 0
OnePart = (task : Task) → streams.OnePart (watching task)

-- a beginning of the report of the first lines is one of the report of all
abbrev pub BeginsPart : Type 0
BeginsPart = (task : Task) → streams.BeginsAll (watching task)

-- at the end of the input too
abbrev pub BeginsWhole : Type 0
BeginsWhole = (task : Task) → streams.BeginsWhole (watching task)

-- what a run that was cut short wrote is a beginning of each report
abbrev pub CutShort : Type 0
CutShort = (task : Task) → streams.CutShort (watching task)

-- a watch ends at the limit exactly where more was taken and the report of the complete lines was
-- written, but for want of memory
abbrev pub LimitIsExact : Type 0
LimitIsExact = (task : Task) → streams.LimitIsExact Refusal (watching task)

-- what a watch by a monitor wrote, a watch wrote from each history that the monitor stands for; and
-- the monitor behind the whole report stands for the history behind it
abbrev pub MonitorsTell : Type 0
MonitorsTell =
    (options : Options) (ending : Ending Refusal) (first last : Monitored) (history : History)
    (before now : Ports) →
    Stands first history →
    StreamedTo ending (monitoring options) (watched_from first) (λ after. after.monitor ≡ last)
    before now →
    StreamedTo ending (watching (task_of options first)) (standing_at history)
    (λ after. Stands last after.history) before now

-- the event, told of a line with this number
abbrev pub numbered : ℕ → Event → Event
numbered line (Accepted other number answers kept) = Accepted line number answers kept
numbered line (Declared other name) = Declared line name
numbered line (Refused other cause) = Refused line cause
numbered line (End accepted refused) = End accepted refused

-- a line is told alike after a history, wherever the stream begins, but for its number
abbrev pub LinesRenumber : Type 0
LinesRenumber =
    (task : Task) (history : History) (number other : ℕ) (line : StreamLine)
    (told : List Event) (after : History) →
    TellsLine task history number line told after →
    TellsLine task history other line (map (numbered other) told) after

-- the drill of one seed and count is one text
abbrev pub OneDrill : Type 0
OneDrill =
    (seed count : ℕ) (setting later : Setting) (one other : List ℕ) →
    Opens nothing_more MadeSay setting → Opens nothing_more MadeSay later →
    IsDrill setting (stream_text seed count) one → IsDrill later (stream_text seed count) other
    → one ≡ other
