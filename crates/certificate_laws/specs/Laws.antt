-- Laws of what is told of certificates.
use Rattle.std.specs.Prelude.{◌≡◌, ◌≤◌, List, ◌++◌, length}
use Rattle.std.specs.List.{All}
use Rattle.dl_syntax.specs.declared.facts.Fact.{Fact}
use Rattle.dl_syntax.specs.Ontology.{Declared, IsOntology}
use Rattle.edge_io.specs.Lines.{items}
use Rattle.forms.specs.declared.StreamForm.TheVariants as form
use Rattle.snapshot_reader.specs.Said.{says, said}
use Rattle.stream_report.specs.Told.{Report}
use Rattle.report_text.specs.Names.{Text}
use Rattle.run_proofs.specs.declared.proof.Proof.{Proof}
use Rattle.run_proofs.specs.Texts.{snapshot_text}
use Rattle.verify_report.specs.Lines.{end_text}
use Rattle.verify_report.specs.Outcome.{Task}
use Rattle.verify_report.specs.Report.{start, verifying}
use Rattle.verify_report.specs.Laws.{NamesApart}
use Rattle.certificate_laws.specs.Certificates.{IsCertificate, IsWritten, texts_of}
use Rattle.certificate_laws.specs.Certificates.{verdicts_of}

-- the line of a snapshot as it is written says that snapshot
abbrev pub SaysAgain : Declared → List Fact → Type 0
SaysAgain o facts = said o form.Text (snapshot_text o facts) ≡ says facts

-- what a line says is said by the line as it is written too, and that one is no longer
abbrev pub SnapshotsAreRead : Type 0
SnapshotsAreRead = (o : Declared) → IsOntology o → (line : Text) (facts : List Fact)
    → said o form.Text line ≡ says facts
    → SaysAgain o facts × (length (snapshot_text o facts) ≤ length line)

-- a proof that is written is a certificate
abbrev pub WrittenAreCertificates : Type 0
WrittenAreCertificates = (task : Task) → NamesApart task → (proof : Proof) → IsWritten task proof
    → IsCertificate task proof

-- of the texts of proofs one behind the other yes is told of each, and nothing else
abbrev pub TextsAreVerified : Type 0
TextsAreVerified = (task : Task) (proofs : List Proof) (told : Text) → NamesApart task
    → All (IsCertificate task) proofs
    → Report (verifying task) start (items (texts_of task proofs)) told
    → told ≡ verdicts_of 1 proofs ++ end_text (length proofs) 0 0
