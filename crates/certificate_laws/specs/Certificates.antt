-- Proofs whose texts can be verified, and what is told of them.
use Rattle.std.specs.Prelude.{◌≢◌, ℕ, ◌+◌, ◌≤◌, List, [], ◌∷◌, ◌++◌, length, flat_map, true}
use Rattle.std.specs.List.{All, AllPairs}
use Rattle.edge_io.specs.Lines.{longest}
use Rattle.report_text.specs.Names.{Text}
use Rattle.snapshot_reader.specs.Laws.{IsDeclared}
use Rattle.run_proofs.specs.declared.proof.Proof.{Proof}
use Rattle.run_proofs.specs.Shows.{Shows}
use Rattle.run_proofs.specs.Texts.{lines_of_proof, proof_text, snapshot_text}
use Rattle.run_proofs.specs.Writable.{IsWritableProof}
use Rattle.tcq_syntax.specs.Tcq.{Tcq, IsTcq}
use Rattle.verify_report.specs.Stages.{most_steps}
use Rattle.verify_report.specs.Lines.{verdict_text}
use Rattle.verify_report.specs.Outcome.{Task}
use Rattle.verify_report.specs.Certificates.{IsReadable}

-- the proof can be read, its facts are those of a snapshot, none of its lines is longer than a line
-- may be, and it shows its goal
pub record IsCertificate (task : Task) (proof : Proof) : Type 0 where
  pub readable : IsReadable task proof
  pub declared : All (IsDeclared task.ontology) proof.facts
  pub distinct : AllPairs (λ f g. f ≢ g) proof.facts
  pub few : length proof.facts ≤ 65536
  pub short : All (λ line. length line ≤ longest)
      (lines_of_proof task.ontology task.queries proof)
  pub shows : Shows task.ontology task.queries proof

-- the proof shows its goal in few steps, its facts are those of a snapshot whose line is no longer
-- than a line may be, and the queries are within their limits
pub record IsWritten (task : Task) (proof : Proof) : Type 0 where
  pub tables : All (λ (query : Tcq). IsTcq query.vars query.nodes) task.queries
  pub few_queries : length task.queries ≤ 65536
  pub declared : All (IsDeclared task.ontology) proof.facts
  pub distinct : AllPairs (λ f g. f ≢ g) proof.facts
  pub few : length proof.facts ≤ 65536
  pub short : length (snapshot_text task.ontology proof.facts) ≤ longest
  pub few_steps : length proof.steps ≤ most_steps
  pub writable : IsWritableProof task.ontology task.queries proof
  pub shows : Shows task.ontology task.queries proof

-- the number of the last line of a proof whose first line has this number
abbrev pub last_line : ℕ → Proof → ℕ
last_line number proof = number + (3 + length proof.steps)

-- the texts of proofs
abbrev pub texts_of : Task → List Proof → Text
texts_of task proofs = flat_map (proof_text task.ontology task.queries) proofs

-- yes, of each of the proofs whose texts begin at this line
abbrev pub verdicts_of : ℕ → List Proof → Text
verdicts_of number [] = []
verdicts_of number (proof ∷ proofs) =
    verdict_text (last_line number proof) true ++ verdicts_of (last_line number proof + 1) proofs

-- yes, of each of the proofs whose last lines have these numbers
abbrev pub yes_text : List ℕ → Text
yes_text numbers = flat_map (λ number. verdict_text number true) numbers
