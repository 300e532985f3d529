-- Yes is told of the lines of each proof that shows its goal.
use Rattle.std.proofs.Common.{◌≡◌, ℕ, ◌+◌, ◌<◌, ◌≤◌, List, [], ◌∷◌, ◌++◌, length, sym, ap, subst}
use Rattle.std.proofs.Common.{refl, inl, inr, map, arith, codes, append_assoc, append-nil}
use Rattle.std.proofs.Common.{length-append}
use Rattle.std.specs.Prelude.{true}
use Rattle.std.specs.List.{All}
use Rattle.std.proofs.lemmas.Bool.{lt-ltb}
use Rattle.std.proofs.lemmas.List.{length-map}
use Rattle.std.proofs.lemmas.List.Elements.{All-head, All-tail}
use Rattle.edge_io.specs.Lines.{Item as StreamLine, text}
use Rattle.forms.specs.declared.StreamForm.TheVariants as form
use Rattle.snapshot_reader.specs.Said.{says, said}
use Rattle.stream_report.specs.Told.{Told}
use Rattle.stream_report.proofs.ToldLaws.{told_joined}
use Rattle.report_text.specs.Names.{Text}
use Rattle.run_proofs.specs.declared.proof.ProofStep.{ProofStep}
use Rattle.run_proofs.specs.declared.proof.Proof.{Proof}
use Rattle.run_proofs.specs.Shows.{Shows}
use Rattle.run_proofs.specs.Texts.{goal_text, step_text, ending_text}
use Rattle.verify_report.specs.declared.stage.Stage.{Stage}
use Rattle.verify_report.specs.declared.stage.Stage.TheVariants.{Outside, Begun, Given, Whole}
use Rattle.verify_report.specs.declared.outcome.Outcome.TheVariants.{Goes, Answered}
use Rattle.verify_report.specs.Stages.{most_steps}
use Rattle.verify_report.specs.Lines.{verdict_text}
use Rattle.verify_report.specs.Outcome.{Task, ComesTo}
use Rattle.verify_report.specs.Report.{Standing, verifies, with_verdict}
use Rattle.verify_report.specs.Certificates.{lines_of, IsSmallStep}
use Rattle.verify_report.specs.Certificates.{IsReadable}
use Rattle.verify_report.specs.Laws.{ProofsAreTold}
use Rattle.verify_report.proofs.Beginning.{goal_stays}

-- so much was read, and the counts are as before
abbrev at : Standing → Stage → Standing
at before stage = record before { stage = stage }

-- a line of which nothing is told
module _ (task : Task) (before : Standing) where
  goes : (number : ℕ) (line : StreamLine) (stage next : Stage) → ComesTo task stage line (Goes next)
      → verifies task (at before stage) number line [] (at before next)
  goes number line stage next comes = (Goes next, comes, (refl, refl))

  -- such a line alone
  one_line : (number : ℕ) (line : StreamLine) (stage next : Stage)
      → ComesTo task stage line (Goes next)
      → Told (verifies task) (line ∷ []) number (at before stage) [] (at before next)
  one_line number line stage next comes =
      ([], [], at before next, goes number line stage next comes, (refl, refl), refl)

module _ (task : Task) (proof : Proof) (before : Standing) where
  abbrev given : List ProofStep → Stage
  given steps = Given proof.goal proof.facts steps

  one_step : (done : List ProofStep) (step : ProofStep) → IsSmallStep step
      → length done < most_steps
      → ComesTo task (given done) (text (step_text step)) (Goes (given (done ++ step ∷ [])))
  one_step done step small few = inl (
    step,
    record { from_small = small.0; inclusion_small = small.1; tells = refl },
    sym (rw (lt-ltb (length done) most_steps few) refl),
  )

  steps_told : (done steps : List ProofStep) (number : ℕ) → All IsSmallStep steps
      → length done + length steps ≤ most_steps
      → Told (verifies task) (map (λ step. text (step_text step)) steps) number
      (at before (given done)) [] (at before (given (done ++ steps)))
  steps_told done [] number small few =
      (refl, ap (λ (s : List ProofStep). at before (given s)) (append-nil done))
  steps_told done (step ∷ steps) number small few = (
    [],
    [],
    at before (given (done ++ step ∷ [])),
    goes task before number (text (step_text step)) (given done) (given (done ++ step ∷ []))
        (one_step done step (All-head IsSmallStep step steps small) (omega arith)),
    subst (λ (s : List ProofStep). Told (verifies task)
        (map (λ step. text (step_text step)) steps) (number + 1)
        (at before (given (done ++ step ∷ []))) [] (at before (given s)))
        (append_assoc done (step ∷ []) steps)
        (steps_told (done ++ step ∷ []) steps (number + 1)
        (All-tail IsSmallStep step steps small)
        (omega (arith, length-append done (step ∷ [])))),
    refl,
  )

  module _ (snapshot : Text) (readable : IsReadable task proof)
      (is : said task.ontology form.Text snapshot ≡ says proof.facts)
      (shows : Shows task.ontology task.queries proof) (starts : before.stage ≡ Outside) where
    abbrev step_lines : List StreamLine
    step_lines = map (λ step. text (step_text step)) proof.steps

    abbrev ending_line : StreamLine
    ending_line = text (ending_text task.ontology.individuals proof.ending)

    to_ending : (number : ℕ) → Told (verifies task) (step_lines ++ ending_line ∷ []) number
        (at before (given [])) [] (at before (Whole proof))
    to_ending number =
        told_joined (verifies task) step_lines (ending_line ∷ []) number (at before (given []))
        (at before (given proof.steps)) (at before (Whole proof)) [] []
        (steps_told [] proof.steps number readable.small (omega (arith, readable.few)))
        (one_line task before (number + length step_lines) ending_line (given proof.steps)
        (Whole proof) (inr (inl (proof.ending, readable.told, refl, refl))))

    last_told : (number : ℕ) → Told (verifies task) (text (codes "end") ∷ []) number
        (at before (Whole proof)) (verdict_text number true) (with_verdict true before)
    last_told number = (
      verdict_text number true,
      [],
      with_verdict true before,
      (Answered true, inl (true, refl, (λ yes. shows, λ shown. refl), refl), (refl, refl)),
      (refl, refl),
      sym (append-nil (verdict_text number true)),
    )

    to_end : (number : ℕ) → Told (verifies task)
        ((step_lines ++ ending_line ∷ []) ++ text (codes "end") ∷ []) number
        (at before (given [])) (verdict_text (number + (1 + length proof.steps)) true)
        (with_verdict true before)
    to_end number =
        let lines = step_lines ++ ending_line ∷ [] in
        let place : number + length lines ≡ number + (1 + length proof.steps) =
        omega (
          arith,
          length-append step_lines (ending_line ∷ []),
          length-map proof.steps (λ (step : ProofStep). text (step_text step)),
        ) in
        subst (λ (n : ℕ). Told (verifies task) (lines ++ text (codes "end") ∷ []) number
        (at before (given [])) (verdict_text n true) (with_verdict true before)) place
        (told_joined (verifies task) lines (text (codes "end") ∷ []) number
        (at before (given [])) (at before (Whole proof)) (with_verdict true before) []
        (verdict_text (number + length lines) true) (to_ending number)
        (last_told (number + length lines)))

    begins : (number : ℕ) → verifies task before number
        (text (goal_text task.ontology.individuals task.queries proof.goal)) []
        (at before (Begun proof.goal))
    begins number = (
      Goes (Begun proof.goal),
      subst (λ (stage : Stage). ComesTo task stage
          (text (goal_text task.ontology.individuals task.queries proof.goal))
          (Goes (Begun proof.goal))) (sym starts)
          (inr (inl (
            proof.goal,
            goal_stays task.ontology task.queries proof.goal,
            readable.asked,
            refl,
            refl,
          ))),
      (refl, refl),
    )

    all_told : (number : ℕ) → Told (verifies task) (lines_of task proof snapshot) number before
        (verdict_text (number + (3 + length proof.steps)) true) (with_verdict true before)
    all_told number =
        let place : number + 1 + 1 + (1 + length proof.steps) ≡ number + (3 + length proof.steps) =
        omega arith in
        subst (λ (n : ℕ). Told (verifies task) (lines_of task proof snapshot) number before
        (verdict_text n true) (with_verdict true before)) place (
          [],
          verdict_text (number + 1 + 1 + (1 + length proof.steps)) true,
          at before (Begun proof.goal),
          begins number,
          (
            [],
            verdict_text (number + 1 + 1 + (1 + length proof.steps)) true,
            at before (given []),
            goes task before (number + 1) (text snapshot) (Begun proof.goal) (given [])
                (sym (rw is refl)),
            to_end (number + 1 + 1),
            refl,
          ),
          refl,
        )

pub proofs_are_told : ProofsAreTold
proofs_are_told task proof snapshot before number starts readable is shows =
    all_told task proof before snapshot readable is shows starts number
