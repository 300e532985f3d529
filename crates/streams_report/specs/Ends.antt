-- How mixed streams end.
use Rattle.stream_report.specs.declared.ending.Ending.{Ending}
use Rattle.stream_report.specs.Ends.{StreamEnds}
use Rattle.stream_report.specs.Outside.{Outside}
use Rattle.job_sources.specs.declared.refusal.Refusal.{Refusal}
use Rattle.job_sources.specs.FileNames.{FileNames}
use Rattle.job_sources.specs.Ends.{FilesEnd, FilesStay}
use Rattle.marked_lines.specs.Mixing.{unmixed}
use Rattle.streams_report.specs.Opening.{refuses_large}
use Rattle.streams_report.specs.Report.{streaming}

-- the streams of the input were watched, each with a history of its own, by what the files of these
-- names say, whose queries aren't too large
abbrev pub StreamsEnds : FileNames → Ending Refusal → Outside → Outside → Type 0
StreamsEnds names ending before now =
    FilesStay ending before.files now.files
    × FilesEnd refuses_large names (λ setting. StreamEnds (streaming setting) unmixed)
    ending before now
