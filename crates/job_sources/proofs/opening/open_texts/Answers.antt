use Rattle.std.proofs.Common.{false, sym, subst}
use Rattle.report_text.specs.Names.{AreSpelled}
use Rattle.monitor_core.specs.Setting.{Setting}
use Rattle.job_sources.specs.Opening.{Is}
use Rattle.job_sources.specs.Sayings.{setting_in}
use Rattle.job_sources.specs.Sources.{Opens, Says, nothing_more}
use Rattle.job_sources.proofs.opening.open_texts.Goals as goal

pub returns-in-Ok-monitor_of-clause-opens : goal.returns-in-Ok-monitor_of-clause-opens
returns-in-Ok-monitor_of-clause-opens c =
    let says : Setting → Type 0 = Says false (Is c.args.ontology.now) (Is c.args.queries.now) in
    let opens : Opens nothing_more says (setting_in c.in-Ok.sources) =
    record {
      say = c.in-Ok.ensures.say;
      taken = λ refusal own. own;
      few =
          c.in-Ok-monitor_of.ensures.few;
    } in
    record {
      opens = subst (Opens nothing_more says) (sym c.in-Ok-monitor_of.ensures.setting) opens;
      stands = c.in-Ok-monitor_of.ensures.stands;
      spelled = subst (λ (s : Setting). AreSpelled s.queries)
          (sym c.in-Ok-monitor_of.ensures.setting)
          c.in-Ok.ensures.spelled;
    }
