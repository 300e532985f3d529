-- How a job ends that writes which queries are contained in which others.
use Rattle.stream_report.specs.declared.ending.Ending.{Ending}
use Rattle.stream_report.specs.Ends.{TextEnds}
use Rattle.stream_report.specs.Outside.{Outside}
use Rattle.job_sources.specs.declared.refusal.Refusal.{Refusal}
use Rattle.job_sources.specs.FileNames.{FileNames}
use Rattle.job_sources.specs.Ends.{FilesEnd, FilesStay}
use Rattle.containment_text.specs.Containments.{IsContainment, refuses_no_leaf}

-- the containments were written of what the files of these names say
abbrev pub ContainEnds : FileNames → Ending Refusal → Outside → Outside → Type 0
ContainEnds names ending before now =
    FilesStay ending before.files now.files
    × FilesEnd refuses_no_leaf names (λ setting. TextEnds (IsContainment setting)) ending before now
