-- How a verification ends.
use Rattle.stream_report.specs.declared.ending.Ending.{Ending}
use Rattle.stream_report.specs.Ends.{StreamEnds}
use Rattle.stream_report.specs.Outside.{Outside}
use Rattle.job_sources.specs.declared.refusal.Refusal.{Refusal}
use Rattle.job_sources.specs.FileNames.{FileNames}
use Rattle.job_sources.specs.Sources.{nothing_more}
use Rattle.job_sources.specs.Ends.{FilesEnd, FilesStay}
use Rattle.verify_report.specs.Report.{start, verifying}

-- the proofs of the input were verified by what the files of these names say
abbrev pub VerifyEnds : FileNames → Ending Refusal → Outside → Outside → Type 0
VerifyEnds names ending before now =
    FilesStay ending before.files now.files
    × FilesEnd nothing_more names
    (λ setting. StreamEnds
    (verifying (record { ontology = setting.ontology; queries = setting.queries })) start)
    ending before now
