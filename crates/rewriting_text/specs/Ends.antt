-- How a job ends that writes the rewritings.
use Rattle.stream_report.specs.declared.ending.Ending.{Ending}
use Rattle.stream_report.specs.Ends.{TextEnds}
use Rattle.stream_report.specs.Outside.{Outside}
use Rattle.job_sources.specs.declared.refusal.Refusal.{Refusal}
use Rattle.job_sources.specs.FileNames.{FileNames}
use Rattle.job_sources.specs.Sources.{nothing_more}
use Rattle.job_sources.specs.Ends.{FilesEnd, FilesStay}
use Rattle.rewriting_text.specs.Leaves.{IsRewriting}

-- the rewritings were written of what the files of these names say
abbrev pub RewriteEnds : FileNames → Ending Refusal → Outside → Outside → Type 0
RewriteEnds names ending before now =
    FilesStay ending before.files now.files
    × FilesEnd nothing_more names (λ setting. TextEnds (IsRewriting setting)) ending before now
