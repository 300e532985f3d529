-- Laws of the report of mixed streams.
use Rattle.std.specs.Prelude.{◌≡◌, ℕ, List}
use Rattle.std.specs.List.{Contains}
use Rattle.edge_io.specs.Lines.{Item as StreamLine}
use Rattle.stream_report.specs.Told.{Report}
use Rattle.stream_report.specs.Laws as streams
use Rattle.monitor_core.specs.Setting.{Setting}
use Rattle.marked_lines.specs.Mixing.{unmixed, mixes}
use Rattle.marked_lines.specs.Laws.{first_names, alone, unmarked}
use Rattle.watch_report.specs.Report.{watches, watching}
use Rattle.streams_report.specs.Report.{watch_of, closed_start, streaming}

-- one text is told of a line, and one standing comes after it
abbrev pub OneLine : Type 0
OneLine = (setting : Setting)
    → streams.IsOneValued (mixes (watches (watch_of setting)) closed_start)

-- the report of the same lines is one text
abbrev pub OneReport : Type 0
OneReport = (setting : Setting) → streams.OneReport (streaming setting)

-- so is the report of complete lines
abbrev pub OnePart : Type 0
OnePart = (setting : Setting) → streams.OnePart (streaming setting)

-- what a run that was cut short wrote is a beginning of each report
abbrev pub CutShort : Type 0
CutShort = (setting : Setting) → streams.CutShort (streaming setting)

-- for each of the first 64 names, the lines behind its mark, without the mark, are the report of
-- the rests of its lines, watched alone with a closed history
abbrev pub EachIsAlone : Type 0
EachIsAlone =
    (setting : Setting) (lines : List StreamLine) (told name : List ℕ) →
    Report (streaming setting) unmixed lines told → Contains (first_names lines) name →
    Report (watching (watch_of setting)) closed_start (alone name lines) (unmarked name told)

-- so what is told of a stream doesn't depend on how its lines stand among those of others
abbrev pub OrderIsFree : Type 0
OrderIsFree =
    (setting : Setting) (lines later : List StreamLine) (told retold name : List ℕ) →
    Report (streaming setting) unmixed lines told →
    Report (streaming setting) unmixed later retold →
    Contains (first_names lines) name → Contains (first_names later) name →
    alone name lines ≡ alone name later → unmarked name told ≡ unmarked name retold
