use Rattle.std.proofs.Common.{◌≤◌, ◌^◌, ℕ, false, List, inr, length, ◌∙◌, sym, subst}
use Rattle.stream_maker.specs.Snapshots.{queries_text}
use Rattle.monitor_core.specs.Standing.{setting_of}
use Rattle.stream_report.specs.Ends.{TextEnds}
use Rattle.stream_report.specs.Outside.{sink_told}
use Rattle.watch_report.specs.Drill.{IsDrill, MadeSay}
use Rattle.job_sources.specs.Opening.{Is}
use Rattle.job_sources.specs.Sources.{Says}
use Rattle.watch_report.proofs.MadeStream.{made_within}
use Rattle.watch_report.proofs.drilling.drill.Goals as goal

pub rehearse-requires-clause-spelled : goal.rehearse-requires-clause-spelled
rehearse-requires-clause-spelled g c = c.in-Ok-open_texts.ensures.opens.spelled

pub rehearse-requires-clause-short : goal.rehearse-requires-clause-short
rehearse-requires-clause-short g c =
    subst (λ (s : List ℕ). length s ≤ 2 ^ 40) (sym c.in-Ok.ensures.stream)
    (made_within c.args.seed c.args.count c.requires)

pub returns-in-Ok-open_texts : goal.returns-in-Ok-open_texts
returns-in-Ok-open_texts g c = record {
  ends = λ input.
      let opens = c.in-Ok-open_texts.ensures.opens.opens in
      let setting = setting_of c.in-Ok-open_texts.monitor in
      let say : MadeSay setting =
      subst (λ (o : List ℕ). Says false (Is o) (Is queries_text) setting)
      (c.deref.ensures.value ∙ c.in-Ok.ensures.ontology)
      (subst (λ (q : List ℕ). Says false (Is c.deref.result.now) (Is q) setting)
      (c.deref-2.ensures.value ∙ c.in-Ok.ensures.queries) opens.say) in
      inr (
        setting,
        record { say = say; taken = opens.taken; few = opens.few },
        subst (λ (s : List ℕ). TextEnds (IsDrill setting s) c.rehearse.result (record {
          input =
              input;
          out = sink_told g.K.Sink c.args.out.now;
        }) (record {
          input = input;
          out =
              sink_told g.K.Sink c.rehearse.new.out;
        }))
            c.in-Ok.ensures.stream (c.rehearse.ensures.ends input),
      );
}
