use Rattle.std.proofs.Common.{ℕ, List, inr, sym, subst}
use Rattle.tcq_syntax.specs.Tcq.{Tcq}
use Rattle.tcq_syntax.specs.Within.{AreWithin}
use Rattle.report_text.specs.Names.{AreSpelled}
use Rattle.monitor_core.specs.Setting.{Setting}
use Rattle.stream_report.specs.Ends.{Written}
use Rattle.stream_report.specs.Outside.{files_told, sink_told}
use Rattle.stream_report.proofs.TextEndings.{text_ends}
use Rattle.job_sources.specs.FileNames.{file_names}
use Rattle.containment_text.specs.Containments.{IsContainment}
use Rattle.job_sources.specs.Sources.{FilesSay}
use Rattle.job_sources.proofs.Staying.{stay_whole}
use Rattle.containment_text.proofs.containment_files.contain_files.Goals as goal

pub containments-requires-clause-within : goal.containments-requires-clause-within
containments-requires-clause-within g c =
    subst (AreWithin c.in-Ok.sources.ontology) (sym c.deref.ensures.value) c.in-Ok.ensures.within

pub containments-requires-clause-spelled : goal.containments-requires-clause-spelled
containments-requires-clause-spelled g c =
    subst AreSpelled (sym c.deref.ensures.value) c.in-Ok.ensures.spelled

pub returns-in-Ok-containments : goal.returns-in-Ok-containments
returns-in-Ok-containments g c = record {
  ends = λ input.
      let setting : Setting = record {
        ontology = c.in-Ok.sources.ontology;
        queries =
            c.deref.result.now;
      } in
      let say : FilesSay (g.F.Files.held c.args.files.now) (file_names c.args.names) setting =
      subst (λ (qs : List Tcq). FilesSay (g.F.Files.held c.args.files.now) (file_names c.args.names)
      (record { ontology = c.in-Ok.sources.ontology; queries = qs }))
      (sym c.deref.ensures.value) c.in-Ok.ensures.say in
      let written : Written c.write_text.result c.in-Ok-containments.text.items
      (g.K.Sink.got c.args.out.now) (g.K.Sink.got c.write_text.new.out) =
      subst (λ (t : List ℕ). Written c.write_text.result t (g.K.Sink.got c.args.out.now)
      (g.K.Sink.got c.write_text.new.out)) c.deref-in-Ok-containments.ensures.value
      c.write_text.ensures.written in (
        stay_whole c.write_text.result (files_told g.F.Files c.args.files.now)
            (files_told g.F.Files c.read_sources.new.files) c.in-Ok.ensures.stays,
        inr (
          setting,
          record {
            say = say;
            taken = c.in-Ok-containments.ensures.taken;
            few =
                c.in-Ok-containments.ensures.few;
          },
          text_ends (IsContainment setting) c.write_text.result c.in-Ok-containments.text.items
              input (sink_told g.K.Sink c.args.out.now) (sink_told g.K.Sink c.write_text.new.out)
              c.in-Ok-containments.ensures.text written c.write_text.ensures.write,
        ),
      );
}
