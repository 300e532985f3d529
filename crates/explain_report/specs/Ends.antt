-- How the report of proofs ends.
use Rattle.monitor_core.specs.Setting.{Setting}
use Rattle.stream_report.specs.declared.ending.Ending.{Ending}
use Rattle.stream_report.specs.Ends.{StreamEnds}
use Rattle.stream_report.specs.Outside.{Outside}
use Rattle.job_sources.specs.declared.refusal.Refusal.{Refusal}
use Rattle.job_sources.specs.FileNames.{FileNames}
use Rattle.job_sources.specs.Sources.{nothing_more}
use Rattle.job_sources.specs.Ends.{FilesEnd, FilesStay}
use Rattle.proof_search.specs.Explainer.{Explained}
use Rattle.explain_report.specs.Report.{start, explaining}

-- what an explainer explains
abbrev pub setting_of : Explained → Setting
setting_of explainer = record { ontology = explainer.ontology; queries = explainer.queries }

-- the lines of the input were explained by what the files of these names say
abbrev pub ExplainEnds : FileNames → Ending Refusal → Outside → Outside → Type 0
ExplainEnds names ending before now =
    FilesStay ending before.files now.files
    × FilesEnd nothing_more names
    (λ setting. StreamEnds
    (explaining (record {
      ontology = setting.ontology;
      queries = setting.queries;
      room = 1048576;
    })) start)
    ending before now
