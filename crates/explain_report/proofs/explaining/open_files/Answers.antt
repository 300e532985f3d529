use Rattle.std.proofs.Common.{sym, subst}
use Rattle.monitor_core.specs.Setting.{Setting}
use Rattle.job_sources.specs.FileNames.{file_names}
use Rattle.job_sources.specs.Sayings.{setting_in}
use Rattle.job_sources.specs.Sources.{Opens, FilesSay, nothing_more}
use Rattle.stream_report.specs.Outside.{files_told}
use Rattle.job_sources.proofs.Staying.{stay_whole}
use Rattle.explain_report.proofs.explaining.open_files.Goals as goal

pub returns-in-Ok-explainer_of-clause-opens : goal.returns-in-Ok-explainer_of-clause-opens
returns-in-Ok-explainer_of-clause-opens g c =
    let says : Setting → Type 0 =
    FilesSay (g.F.Files.held c.args.files.now) (file_names c.args.names) in
    let opens : Opens nothing_more says (setting_in c.in-Ok.sources) =
    record {
      say = c.in-Ok.ensures.say;
      taken = λ refusal own. own;
      few = c.in-Ok-explainer_of.ensures.few;
    } in
    subst (Opens nothing_more says) (sym c.in-Ok-explainer_of.ensures.setting) opens

pub returns-in-Err-explainer_of-clause-stay : goal.returns-in-Err-explainer_of-clause-stay
returns-in-Err-explainer_of-clause-stay g c =
    stay_whole c.in-Err-explainer_of.ending (files_told g.F.Files c.args.files.now)
    (files_told g.F.Files c.read_sources.new.files) c.in-Ok.ensures.stays
