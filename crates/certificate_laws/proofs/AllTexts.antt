-- Yes is told of each of the proofs whose texts stand one behind the other.
use Rattle.std.proofs.Common.{◌≡◌, ℕ, ◌+◌, List, [], ◌∷◌, ◌++◌, length, refl, sym, ap, ◌∙◌, subst}
use Rattle.std.proofs.Common.{arith, map, length-append, append_assoc, append-nil}
use Rattle.std.specs.Prelude.{true, codes}
use Rattle.std.specs.List.{All}
use Rattle.std.proofs.lemmas.List.{length-map}
use Rattle.std.proofs.lemmas.List.Elements.{All-head, All-tail}
use Rattle.edge_io.specs.Lines.{Item as StreamLine, text, items}
use Rattle.stream_report.specs.Told.{Told}
use Rattle.stream_report.proofs.ToldLaws.{told_joined}
use Rattle.stream_report.proofs.ReportLaws.{one_report}
use Rattle.run_proofs.specs.declared.proof.ProofStep.{ProofStep}
use Rattle.run_proofs.specs.declared.proof.Proof.{Proof}
use Rattle.run_proofs.specs.Texts.{proof_text, snapshot_text, step_text, ending_text}
use Rattle.verify_report.specs.declared.stage.Stage.TheVariants.{Outside}
use Rattle.verify_report.specs.Lines.{verdict_text, end_text}
use Rattle.verify_report.specs.Outcome.{Task}
use Rattle.verify_report.specs.Report.{Standing, start, verifies, verifying, with_verdict}
use Rattle.verify_report.specs.Certificates.{lines_of}
use Rattle.verify_report.specs.Laws.{NamesApart}
use Rattle.verify_report.proofs.OneText.{verifying_once}
use Rattle.certificate_laws.specs.Certificates.{IsCertificate, last_line, texts_of, verdicts_of}
use Rattle.certificate_laws.specs.Laws.{TextsAreVerified}
use Rattle.certificate_laws.proofs.ProofTexts.{proof_items, proof_told}

-- so many lines
lines_count : (task : Task) (proof : Proof) (number : ℕ)
    → number + length (lines_of task proof (snapshot_text task.ontology proof.facts))
    ≡ last_line number proof + 1
lines_count task proof number =
    let steps = map (λ (step : ProofStep). text (step_text step)) proof.steps in
    let ending : List StreamLine = text (ending_text task.ontology.individuals proof.ending) ∷ [] in
    omega (
      arith,
      length-append (steps ++ ending) (text (codes "end") ∷ []),
      length-append steps ending,
      length-map proof.steps (λ (step : ProofStep). text (step_text step)),
    )

-- where a verification stands after them
abbrev pub after_all : Standing → List Proof → Standing
after_all before [] = before
after_all before (proof ∷ proofs) = after_all (with_verdict true before) proofs

pub all_told : (task : Task) → NamesApart task → (proofs : List Proof)
    → All (IsCertificate task) proofs → (rest : List ℕ) (before : Standing) (number : ℕ)
    → before.stage ≡ Outside
    → (lines : List StreamLine)
    × (items (texts_of task proofs ++ rest) ≡ lines ++ items rest)
    × Told (verifies task) lines number before (verdicts_of number proofs)
    (after_all before proofs)
all_told task apart [] are rest before number starts = ([], refl, (refl, refl))
all_told task apart (proof ∷ proofs) are rest before number starts =
    let is : IsCertificate task proof = All-head (IsCertificate task) proof proofs are in
    let more = all_told task apart proofs (All-tail (IsCertificate task) proof proofs are) rest
    (with_verdict true before) (last_line number proof + 1) refl in
    let lines = lines_of task proof (snapshot_text task.ontology proof.facts) in (
      lines ++ more.0,
      ap items (append_assoc (proof_text task.ontology task.queries proof)
          (texts_of task proofs) rest)
          ∙ (proof_items task apart proof is (texts_of task proofs ++ rest)
          ∙ (ap (λ (ls : List StreamLine). lines ++ ls) more.1
          ∙ sym (append_assoc lines more.0 (items rest)))),
      told_joined (verifies task) lines more.0 number before (with_verdict true before)
          (after_all (with_verdict true before) proofs)
          (verdict_text (last_line number proof) true)
          (verdicts_of (last_line number proof + 1) proofs)
          (proof_told task apart proof is before number starts)
          (subst (λ (n : ℕ). Told (verifies task) more.0 n (with_verdict true before)
          (verdicts_of (last_line number proof + 1) proofs)
          (after_all (with_verdict true before) proofs)) (sym (lines_count task proof number))
          more.2),
    )

-- what was counted
pub record Counts (before : Standing) (proofs : List Proof) : Type 0 where
  pub stage : (after_all before proofs).stage ≡ before.stage
  pub yes : (after_all before proofs).yes ≡ before.yes + length proofs
  pub no : (after_all before proofs).no ≡ before.no
  pub refused : (after_all before proofs).refused ≡ before.refused

pub all_counted : (before : Standing) (proofs : List Proof) → before.stage ≡ Outside
    → Counts before proofs
all_counted before [] starts =
    record { stage = refl; yes = omega arith; no = refl; refused = refl }
all_counted before (proof ∷ proofs) starts =
    let more = all_counted (with_verdict true before) proofs refl in
    record {
      stage = more.stage ∙ sym starts;
      yes = omega (arith, more.yes);
      no = more.no;
      refused = more.refused;
    }

pub texts_are_verified : TextsAreVerified
texts_are_verified task proofs told apart are report =
    let all = all_told task apart proofs are [] start 1 refl in
    let counts : Counts start proofs = all_counted start proofs refl in
    let last = end_text (length proofs) 0 0 in
    let yes : (after_all start proofs).yes ≡ length proofs = omega (arith, counts.yes) in
    let lines : items (texts_of task proofs) ≡ all.0 =
    ap items (sym (append-nil (texts_of task proofs))) ∙ (all.1 ∙ append-nil all.0) in
    one_report (verifying task) (verifying_once task apart) start (items (texts_of task proofs))
    told (verdicts_of 1 proofs ++ last) report (record {
      told = verdicts_of 1 proofs;
      after = after_all start proofs;
      tells = subst (λ (ls : List StreamLine). Told (verifies task) ls 1 start
          (verdicts_of 1 proofs) (after_all start proofs)) (sym lines) all.2;
      last = last;
      closes = sym (rw (yes, counts.no, counts.refused) refl);
      is = refl;
    })
