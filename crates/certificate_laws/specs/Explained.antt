-- Proofs that are told of a stream, as certificates.
use Rattle.std.specs.Prelude.{◌≡◌, ◌≤◌, List, length}
use Rattle.dl_syntax.specs.declared.facts.Fact.{Fact}
use Rattle.edge_io.specs.Lines.{longest}
use Rattle.forms.specs.declared.StreamForm.TheVariants as form
use Rattle.snapshot_reader.specs.Said.{says, said}
use Rattle.report_text.specs.Names.{Text}
use Rattle.run_proofs.specs.declared.proof.Goal.{Goal}
use Rattle.run_proofs.specs.declared.proof.Proof.{Proof}
use Rattle.proof_search.specs.Explainer.{Explained, AreTables}
use Rattle.explain_report.specs.Answers.{Proves}
use Rattle.verify_report.specs.Stages.{most_steps}
use Rattle.verify_report.specs.Outcome.{Task}
use Rattle.verify_report.specs.Laws.{NamesApart}
use Rattle.certificate_laws.specs.Certificates.{IsCertificate}

-- what its proofs are verified against
abbrev pub task_of : Explained → Task
task_of e = record { ontology = e.ontology; queries = e.queries }

-- no two names are equal, the queries are tables within their limits, and a proof has no more steps
-- than one that is read
pub record IsFit (e : Explained) : Type 0 where
  pub apart : NamesApart (task_of e)
  pub tables : AreTables e.queries
  pub few_queries : length e.queries ≤ 65536
  pub room : e.room ≤ most_steps

-- each proof that may be told of a snapshot that a line says is a certificate
abbrev pub ExplainedAreCertificates : Type 0
ExplainedAreCertificates =
    (e : Explained) → IsFit e → (line : Text) (snapshot : List Fact) (g : Goal) (proof : Proof)
    → length line ≤ longest → said e.ontology form.Text line ≡ says snapshot
    → Proves e snapshot g proof → IsCertificate (task_of e) proof
