-- How an audit ends.
use Rattle.stream_report.specs.declared.ending.Ending.{Ending}
use Rattle.stream_report.specs.Ends.{StreamEnds}
use Rattle.stream_report.specs.Outside.{Outside}
use Rattle.job_sources.specs.declared.refusal.Refusal.{Refusal}
use Rattle.job_sources.specs.FileNames.{FileNames}
use Rattle.job_sources.specs.Sources.{nothing_more}
use Rattle.job_sources.specs.Ends.{FilesEnd, FilesStay}
use Rattle.audit_report.specs.Report.{start, auditing}

-- the models of the input were audited by what the files of these names say
abbrev pub AuditEnds : FileNames → Ending Refusal → Outside → Outside → Type 0
AuditEnds names ending before now =
    FilesStay ending before.files now.files
    × FilesEnd nothing_more names
    (λ setting. StreamEnds
    (auditing (record { ontology = setting.ontology; queries = setting.queries })) start)
    ending before now
