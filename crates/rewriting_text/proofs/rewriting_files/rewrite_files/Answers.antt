use Rattle.std.proofs.Common.{◌≡◌, ℕ, List, Err, inl, inr, refl, sym, subst}
use Rattle.perfect_ref.specs.declared.rewriting.RewriteFault.TheVariants.{TooManyRewritings}
use Rattle.tcq_syntax.specs.Tcq.{Tcq}
use Rattle.tcq_syntax.specs.Within.{AreWithin}
use Rattle.monitor_core.specs.Setting.{Setting}
use Rattle.stream_report.specs.Ends.{Written}
use Rattle.stream_report.specs.Outside.{files_told, sink_told}
use Rattle.stream_report.proofs.TextEndings.{text_ends}
use Rattle.job_sources.specs.FileNames.{file_names}
use Rattle.rewriting_text.specs.Leaves.{IsRewriting}
use Rattle.job_sources.specs.Sources.{FilesSay}
use Rattle.job_sources.proofs.Staying.{stay_whole}
use Rattle.rewriting_text.proofs.rewriting_files.rewrite_files.Goals as goal

pub rewriting_text-requires : goal.rewriting_text-requires
rewriting_text-requires g c =
    subst (AreWithin c.in-Ok.sources.ontology) (sym c.deref.ensures.value) c.in-Ok.ensures.within

pub returns-in-Ok-rewriting_text : goal.returns-in-Ok-rewriting_text
returns-in-Ok-rewriting_text g c = record {
  ends = λ input.
      let setting : Setting = record {
        ontology = c.in-Ok.sources.ontology;
        queries =
            c.deref.result.now;
      } in
      let say : FilesSay (g.F.Files.held c.args.files.now) (file_names c.args.names) setting =
      subst (λ (qs : List Tcq). FilesSay (g.F.Files.held c.args.files.now) (file_names c.args.names)
      (record { ontology = c.in-Ok.sources.ontology; queries = qs }))
      (sym c.deref.ensures.value) c.in-Ok.ensures.say in
      let written : Written c.write_text.result c.in-Ok-rewriting_text.text.items
      (g.K.Sink.got c.args.out.now) (g.K.Sink.got c.write_text.new.out) =
      subst (λ (t : List ℕ). Written c.write_text.result t (g.K.Sink.got c.args.out.now)
      (g.K.Sink.got c.write_text.new.out)) c.deref-in-Ok-rewriting_text.ensures.value
      c.write_text.ensures.written in (
        stay_whole c.write_text.result (files_told g.F.Files c.args.files.now)
            (files_told g.F.Files c.read_sources.new.files) c.in-Ok.ensures.stays,
        inr (
          setting,
          record {
            say = say;
            taken = λ refusal own. own;
            few =
                c.in-Ok-rewriting_text.ensures.within;
          },
          text_ends (IsRewriting setting) c.write_text.result c.in-Ok-rewriting_text.text.items
              input (sink_told g.K.Sink c.args.out.now) (sink_told g.K.Sink c.write_text.new.out)
              c.in-Ok-rewriting_text.ensures.text written c.write_text.ensures.write,
        ),
      );
}

pub returns-in-Err-TooManyRewritings : goal.returns-in-Err-TooManyRewritings
returns-in-Err-TooManyRewritings g c = record {
  ends = λ input.
      let setting : Setting = record {
        ontology = c.in-Ok.sources.ontology;
        queries =
            c.deref.result.now;
      } in
      let say : FilesSay (g.F.Files.held c.args.files.now) (file_names c.args.names) setting =
      subst (λ (qs : List Tcq). FilesSay (g.F.Files.held c.args.files.now) (file_names c.args.names)
      (record { ontology = c.in-Ok.sources.ontology; queries = qs }))
      (sym c.deref.ensures.value) c.in-Ok.ensures.say in
      let is : c.rewriting_text.result ≡ Err TooManyRewritings = cc in (
        c.in-Ok.ensures.stays,
        inl (
          inr (
            setting,
            say,
            inr (
              refl,
              λ refusal own.
                  own,
              c.rewriting_text.ensures.many is,
            ),
          ),
          record { input = refl; out = refl },
        ),
      );
}
