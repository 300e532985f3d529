-- What a drill tells of the stream that it makes.
use Rattle.std.specs.Prelude.{◌≡◌, ℕ, false, List, [], ◌∷◌, ◌++◌}
use Rattle.edge_io.specs.Lines.{items}
use Rattle.report_text.specs.declared.event.Event.{Event}
use Rattle.forms.specs.declared.ReportForm.TheVariants as report
use Rattle.forms.specs.declared.LineForm.TheVariants as line
use Rattle.forms.specs.declared.StreamForm.TheVariants as form
use Rattle.monitor_core.specs.Setting.{Setting}
use Rattle.stream_maker.specs.Ontology.{ontology_text}
use Rattle.stream_maker.specs.Snapshots.{queries_text}
use Rattle.job_sources.specs.Opening.{Is}
use Rattle.job_sources.specs.Sources.{Says}
use Rattle.stream_report.specs.Told.{Step, Manner, Report}
use Rattle.watch_report.specs.declared.options.Options.{Options}
use Rattle.watch_report.specs.Report.{Standing, start, GoesOn, end_event, bytes_of}
use Rattle.watch_report.specs.Task.{Task}

-- all in text form, and no sizes
abbrev pub plain : Options
plain = record { form = form.Text; report = report.Lines line.Text; sizes = false }

-- where a drill stands between lines: where a watch would stand, and what a watch would have told
-- of the last line of which it tells anything
pub record Rehearsed : Type 0 where
  pub standing : Standing
  pub last : List Event

-- before the first line
abbrev pub unrehearsed : Rehearsed
unrehearsed = record { standing = start; last = [] }

-- the later events, or the earlier ones where there are none
abbrev pub latest : List Event → List Event → List Event
latest earlier [] = earlier
latest earlier (event ∷ events) = event ∷ events

-- a drill tells nothing of a line
abbrev pub rehearses : Task → Step Rehearsed
rehearses task before number line told after =
    (told ≡ [])
    × ((events : List Event)
    × GoesOn task before.standing number line events after.standing
    × (after.last ≡ latest before.last events))

-- at the end it tells the last events that a watch would have told of a line, and the end
abbrev pub rehearsing : Task → Manner Rehearsed
rehearsing task = record {
  opening = [];
  step = rehearses task;
  closes = λ after last. last
      ≡ bytes_of task after.standing.history (after.last ++ end_event after.standing ∷ []);
}

-- what a drill tells of a stream
abbrev pub IsDrill : Setting → List ℕ → List ℕ → Type 0
IsDrill setting stream text =
    Report (rehearsing (record { setting = setting; options = plain })) unrehearsed (items stream)
    text

-- what the ontology and the queries say that a drill makes
abbrev pub MadeSay : Setting → Type 0
MadeSay setting = Says false (Is ontology_text) (Is queries_text) setting
