-- The text of a proof is read, and yes is told of it.
use Rattle.std.proofs.Common.{◌≡◌, ℕ, ◌≤◌, List, [], ◌∷◌, ◌++◌, length, refl, sym, ap, ◌∙◌, map}
use Rattle.std.proofs.Common.{false, append_assoc, codes}
use Rattle.std.specs.Prelude.{true}
use Rattle.std.specs.List.{All}
use Rattle.std.proofs.lemmas.List.{map-append}
use Rattle.std.proofs.lemmas.List.Elements.{All-nil, All-cons, All-append, All-head, All-tail}
use Rattle.list_lemmas.proofs.Maps.{map_twice}
use Rattle.edge_io.specs.Lines.{Item as StreamLine, text, items, longest, has_newline}
use Rattle.stream_report.specs.Told.{Told}
use Rattle.run_proofs.specs.declared.proof.ProofStep.{ProofStep}
use Rattle.run_proofs.specs.declared.proof.Proof.{Proof}
use Rattle.run_proofs.specs.Texts.{Text, goal_text, snapshot_text, step_text, ending_text}
use Rattle.run_proofs.specs.Texts.{lines_of_proof, proof_text}
use Rattle.verify_report.specs.declared.stage.Stage.TheVariants.{Outside}
use Rattle.verify_report.specs.Lines.{verdict_text}
use Rattle.verify_report.specs.Outcome.{Task}
use Rattle.verify_report.specs.Report.{Standing, verifies, with_verdict}
use Rattle.verify_report.specs.Certificates.{lines_of}
use Rattle.verify_report.specs.Laws.{NamesApart}
use Rattle.verify_report.proofs.Accepting.{proofs_are_told}
use Rattle.certificate_laws.specs.Certificates.{IsCertificate, last_line}
use Rattle.certificate_laws.proofs.Newlines.{step_line, ending_line, goal_line}
use Rattle.certificate_laws.proofs.SnapshotLines.{snapshot_said, snapshot_line}
use Rattle.certificate_laws.proofs.TextLines.{IsLine, all_items}

module _ (task : Task) (apart : NamesApart task) (proof : Proof)
    (is : IsCertificate task proof) where
  abbrev names : List Text
  names = task.ontology.individuals

  -- no line has a newline
  abbrev HasNone : Text → Type 0
  HasNone line = has_newline line ≡ false

  steps_lines : (steps : List ProofStep) → All HasNone (map step_text steps)
  steps_lines [] = All-nil HasNone
  steps_lines (step ∷ steps) =
      All-cons HasNone (step_text step) (map step_text steps) (step_line step) (steps_lines steps)

  last_lines : All HasNone (ending_text names proof.ending ∷ codes "end" ∷ [])
  last_lines =
      All-cons HasNone (ending_text names proof.ending) (codes "end" ∷ [])
      (ending_line task.ontology apart.sound proof.ending is.readable.told)
      (All-cons HasNone (codes "end") [] refl (All-nil HasNone))

  no_newlines : All HasNone (lines_of_proof task.ontology task.queries proof)
  no_newlines =
      All-cons HasNone (goal_text names task.queries proof.goal)
      (snapshot_text task.ontology proof.facts ∷ (map step_text proof.steps
      ++ (ending_text names proof.ending ∷ codes "end" ∷ [])))
      (goal_line task.ontology apart.sound task.queries proof.goal apart.apart is.readable.asked)
      (All-cons HasNone (snapshot_text task.ontology proof.facts) (map step_text proof.steps
      ++ (ending_text names proof.ending ∷ codes "end" ∷ []))
      (snapshot_line task.ontology apart.sound proof.facts is.declared)
      (All-append HasNone (map step_text proof.steps)
      (ending_text names proof.ending ∷ codes "end" ∷ []) (steps_lines proof.steps) last_lines))

  are_lines : (ls : List Text) → All HasNone ls → All (λ l. length l ≤ longest) ls → All IsLine ls
  are_lines [] none short = All-nil IsLine
  are_lines (l ∷ ls) none short =
      All-cons IsLine l ls (record {
        one = All-head HasNone l ls none;
        short = All-head (λ l. length l ≤ longest) l ls short;
      })
      (are_lines ls (All-tail HasNone l ls none) (All-tail (λ l. length l ≤ longest) l ls short))

  -- as items
  abbrev step_items : List StreamLine
  step_items = map (λ (step : ProofStep). text (step_text step)) proof.steps

  given : map text (lines_of_proof task.ontology task.queries proof)
      ≡ lines_of task proof (snapshot_text task.ontology proof.facts)
  given =
      let goal = text (goal_text names task.queries proof.goal) in
      let snapshot = text (snapshot_text task.ontology proof.facts) in
      let ending = text (ending_text names proof.ending) in
      let end = text (codes "end") in
      let steps : map text (map step_text proof.steps) ≡ step_items =
      map_twice text step_text (λ (step : ProofStep). text (step_text step)) proof.steps
      (λ k d within. refl) in
      ap (λ (ls : List StreamLine). goal ∷ snapshot ∷ ls)
      (map-append text (map step_text proof.steps)
      (ending_text names proof.ending ∷ codes "end" ∷ [])
      ∙ (ap (λ (ls : List StreamLine). ls ++ (ending ∷ end ∷ [])) steps
      ∙ sym (append_assoc step_items (ending ∷ []) (end ∷ []))))

  pub proof_items : (rest : Text) → items (proof_text task.ontology task.queries proof ++ rest)
      ≡ lines_of task proof (snapshot_text task.ontology proof.facts) ++ items rest
  proof_items rest =
      all_items (lines_of_proof task.ontology task.queries proof) rest
      (are_lines (lines_of_proof task.ontology task.queries proof) no_newlines is.short)
      ∙ ap (λ (ls : List StreamLine). ls ++ items rest) given

  pub proof_told : (before : Standing) (number : ℕ) → before.stage ≡ Outside
      → Told (verifies task) (lines_of task proof (snapshot_text task.ontology proof.facts)) number
      before (verdict_text (last_line number proof) true) (with_verdict true before)
  proof_told before number starts =
      proofs_are_told task proof (snapshot_text task.ontology proof.facts) before number starts
      is.readable (snapshot_said task.ontology apart.sound proof.facts is.declared is.distinct
      is.few) is.shows
