-- How a job on files ends.
use Rattle.std.specs.Prelude.{◌≡◌}
use Rattle.monitor_core.specs.Setting.{Setting}
use Rattle.stream_report.specs.declared.ending.Ending.{Ending}
use Rattle.stream_report.specs.declared.ending.Ending.TheVariants.{ReadFault, Memory}
use Rattle.stream_report.specs.Commands.{OpenedEnds}
use Rattle.stream_report.specs.Outside.{FilesTold, Ports, Outside}
use Rattle.job_sources.specs.declared.refusal.Refusal.{Refusal}
use Rattle.job_sources.specs.FileNames.{FileNames}
use Rattle.job_sources.specs.Sources.{Opens, OpeningFails, FilesSay, FilesUnread}

-- how a job on the files of these names ended, which refuses so by itself and ends so by what they
-- say
abbrev pub FilesEnd : (Setting → Refusal → Type 0) → FileNames
    → (Setting → Ending Refusal → Ports → Ports → Type 0)
    → Ending Refusal → Outside → Outside → Type 0
FilesEnd own names ends ending before now =
    OpenedEnds (Opens own (FilesSay before.files.held names))
    (OpeningFails own (FilesSay before.files.held names) (FilesUnread before.files now.files names))
    ends ending before.ports now.ports

-- no file changed, and none of their faults was counted but where one of them wasn't read, the
-- input wasn't or memory ran out
abbrev pub FilesStay : Ending Refusal → FilesTold → FilesTold → Type 0
FilesStay ReadFault before now = now.held ≡ before.held
FilesStay Memory before now = now.held ≡ before.held
FilesStay _ before now = now ≡ before
