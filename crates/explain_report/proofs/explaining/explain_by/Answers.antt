use Rattle.std.proofs.Common.{◌≡◌, ℕ, ap, subst}
use Rattle.job_sources.specs.declared.refusal.Refusal.{Refusal}
use Rattle.stream_report.specs.Ends.{StreamEnds}
use Rattle.stream_report.specs.Outside.{ports_of}
use Rattle.proof_search.specs.Explainer.{Explained}
use Rattle.explain_report.specs.Report.{start, explaining}
use Rattle.explain_report.proofs.explaining.explain_by.Goals as goal

abbrev with_room : Explained → ℕ → Explained
with_room e room = record { ontology = e.ontology; queries = e.queries; room = room }

pub returns : goal.returns
returns g c =
    let same : c.args.explainer.now ≡ with_room c.args.explainer.now 1048576 =
    ap (with_room c.args.explainer.now) c.requires in
    record {
      ends = subst (λ (e : Explained). StreamEnds {Refusal = Refusal} (explaining e) start
          c.explain_stream.result
          (ports_of g.S.Source g.K.Sink c.args.input.now c.args.out.now)
          (ports_of g.S.Source g.K.Sink c.explain_stream.new.input c.explain_stream.new.out))
          same c.explain_stream.ensures.ends;
    }
