use Rattle.std.proofs.Common.{sym, subst}
use Rattle.report_text.specs.Names.{AreSpelled}
use Rattle.monitor_core.specs.Setting.{Setting}
use Rattle.job_sources.specs.FileNames.{file_names}
use Rattle.job_sources.specs.Sayings.{setting_in}
use Rattle.job_sources.specs.Sources.{Opens, FilesSay}
use Rattle.stream_report.specs.Outside.{files_told}
use Rattle.job_sources.proofs.Staying.{stay_whole}
use Rattle.streams_report.specs.Opening.{refuses_large}
use Rattle.streams_report.proofs.opening.open_streams.Goals as goal

pub returns-in-Ok-monitor_of-clause-opens : goal.returns-in-Ok-monitor_of-clause-opens
returns-in-Ok-monitor_of-clause-opens g c =
    let says : Setting → Type 0 =
    FilesSay (g.F.Files.held c.args.files.now) (file_names c.args.names) in
    let opens : Opens refuses_large says (setting_in c.in-Ok.sources) =
    record {
      say = c.in-Ok.ensures.say;
      taken = c.in-Ok-monitor_of.ensures.taken;
      few = c.in-Ok-monitor_of.ensures.few;
    } in
    record {
      opens = subst (Opens refuses_large says) (sym c.in-Ok-monitor_of.ensures.setting) opens;
      stands = c.in-Ok-monitor_of.ensures.stands;
      spelled = subst (λ (s : Setting). AreSpelled s.queries)
          (sym c.in-Ok-monitor_of.ensures.setting) c.in-Ok.ensures.spelled;
    }

pub returns-in-Err-monitor_of-clause-stay : goal.returns-in-Err-monitor_of-clause-stay
returns-in-Err-monitor_of-clause-stay g c =
    stay_whole c.in-Err-monitor_of.ending (files_told g.F.Files c.args.files.now)
    (files_told g.F.Files c.read_sources.new.files) c.in-Ok.ensures.stays
