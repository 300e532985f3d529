-- The report of mixed streams, each of which is watched with a history of its own.
use Rattle.std.specs.Prelude.{◌≡◌, ℕ, List}
use Rattle.stream_report.specs.Told.{Manner}
use Rattle.monitor_core.specs.Setting.{Setting}
use Rattle.monitor_core.specs.Standing.{no_history}
use Rattle.marked_lines.specs.Mixing.{Mixed, mixing}
use Rattle.watch_report.specs.Drill.{plain}
use Rattle.watch_report.specs.Report.{Standing, watches, bytes_of_event, end_event}
use Rattle.watch_report.specs.Task.{Task}

-- each stream is watched so: all in text form, and no sizes
abbrev pub watch_of : Setting → Task
watch_of setting = record { setting = setting; options = plain }

-- before its first line no snapshot came, and no name will
abbrev pub closed_start : Standing
closed_start = record { history = no_history; refused = 0 }

-- what stands last of one stream
abbrev pub ends_alone : Setting → Standing → List ℕ → Type 0
ends_alone setting after last =
    last ≡ bytes_of_event (watch_of setting) after.history (end_event after)

-- and of all of them
abbrev pub streaming : Setting → Manner (Mixed Standing)
streaming setting = mixing (watches (watch_of setting)) (ends_alone setting) closed_start
