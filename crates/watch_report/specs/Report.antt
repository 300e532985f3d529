-- The report of a stream.
use Rattle.std.specs.Prelude.{◌≡◌, ℕ, ◌+◌, Bool, true, false, List}
use Rattle.std.specs.List.{flat_map, count_by}
use Rattle.tcq_syntax.specs.Histories.{History, empty_history}
use Rattle.edge_io.specs.Lines.{Item as StreamLine}
use Rattle.report_text.specs.declared.event.Event.{Event}
use Rattle.report_text.specs.declared.event.Event.TheVariants.{Refused, End}
use Rattle.report_text.specs.Events.{event_text, report_heading_text}
use Rattle.monitor_core.specs.Standing.{count_of}
use Rattle.stream_report.specs.Told.{Step, Manner}
use Rattle.watch_report.specs.declared.options.Options.{Options}
use Rattle.watch_report.specs.Task.{Task, ontology_after}
use Rattle.watch_report.specs.Told.{TellsLine}

-- the bytes that tell an event, by the names after the history
abbrev pub bytes_of_event : Task → History → Event → List ℕ
bytes_of_event task history event =
    event_text task.options.report (ontology_after task.setting history) task.setting.queries event

abbrev pub bytes_of : Task → History → List Event → List ℕ
bytes_of task history told = flat_map (bytes_of_event task history) told

-- what stands before the first event
unfoldable pub heading_of : Options → List ℕ
heading_of options = report_heading_text options.report

abbrev pub heading : Task → List ℕ
heading task = heading_of task.options

abbrev pub is_refusal : Event → Bool
is_refusal (Refused line cause) = true
is_refusal _ = false

abbrev pub refused_in : List Event → ℕ
refused_in told = count_by is_refusal told

-- where a watch stands between lines: the names declared and the snapshots accepted so far, and how
-- many lines were refused
pub record Standing : Type 0 where
  pub history : History
  pub refused : ℕ

-- before the first line of a stream that goes on after the history
abbrev pub standing_at : History → Standing
standing_at history = record { history = history; refused = 0 }

-- before the first line of all nothing came, and names may come
abbrev pub start : Standing
start = standing_at (empty_history false)

-- a watch goes on by a line with this number, of which these events are told
abbrev pub GoesOn : Task → Standing → ℕ → StreamLine → List Event → Standing → Type 0
GoesOn task before number line told after =
    TellsLine task before.history number line told after.history
    × (after.refused ≡ before.refused + refused_in told)

-- the last event
abbrev pub end_event : Standing → Event
end_event after = End (count_of after.history) after.refused

-- what a watch tells of a line
abbrev pub watches : Task → Step Standing
watches task before number line told after =
    (events : List Event)
    × GoesOn task before number line events after
    × (told ≡ bytes_of task after.history events)

-- and of a stream: first the heading, last the end
abbrev pub watching : Task → Manner Standing
watching task = record {
  opening = heading task;
  step = watches task;
  closes = λ after last. last ≡ bytes_of_event task after.history (end_event after);
}
