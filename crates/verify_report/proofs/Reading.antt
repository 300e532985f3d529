-- What was read of a proof stands last in the lines.
use Rattle.std.proofs.Common.{◌≡◌, ℕ, ◌+◌, List, [], ◌∷◌, ◌++◌, length, sym, ap, ◌∙◌, subst, refl}
use Rattle.std.proofs.Common.{inl, inr, cond, append_assoc, append-nil, ltb}
use Rattle.std.specs.Prelude.{Bool, true, false}
use Rattle.std.proofs.lemmas.List.{map-append}
use Rattle.dl_syntax.specs.declared.facts.Fact.{Fact}
use Rattle.edge_io.specs.Lines.{Item as StreamLine, text, too_long}
use Rattle.forms.specs.declared.StreamForm.TheVariants as form
use Rattle.snapshot_reader.specs.Said.{Said, nothing, refused, names, says, said}
use Rattle.stream_report.specs.Told.{Told}
use Rattle.report_text.specs.Names.{Text}
use Rattle.report_text.specs.declared.item.Cause.TheVariants as cause
use Rattle.run_proofs.specs.declared.proof.Goal.{Goal}
use Rattle.run_proofs.specs.declared.proof.ProofStep.{ProofStep}
use Rattle.run_proofs.specs.Texts.{step_text}
use Rattle.verify_report.specs.declared.stage.Stage.{Stage}
use Rattle.verify_report.specs.declared.stage.Stage.TheVariants.{Outside, Begun, Given, Whole}
use Rattle.verify_report.specs.declared.outcome.Outcome.{Outcome}
use Rattle.verify_report.specs.declared.outcome.Outcome.TheVariants.{Goes, Refused, Answered}
use Rattle.verify_report.specs.Stages.{most_steps}
use Rattle.verify_report.specs.Outcome.{Task, ComesTo, ComesOutside, ComesInSteps}
use Rattle.verify_report.specs.Outcome.{outcome_of_facts}
use Rattle.verify_report.specs.Report.{Standing, Replies, verifies, with_verdict}
use Rattle.verify_report.specs.Certificates.{first_lines, WasRead, ReadGoal}
use Rattle.verify_report.specs.Certificates.{ReadSteps}

-- the same of what a line comes to
abbrev GoesOn : Task → List StreamLine → Outcome → Type 0
GoesOn task lines (Goes stage) = WasRead task lines stage
GoesOn task lines _ = Unit {0}

module _ (task : Task) (lines : List StreamLine) (line : Text) where
  abbrev more : List StreamLine
  more = lines ++ text line ∷ []

  more_outside : (outcome : Outcome) → ComesOutside task.ontology task.queries line outcome
      → GoesOn task more outcome
  more_outside outcome (inl p) = subst (GoesOn task more) (sym p.1) tt
  more_outside outcome (inr (inl p)) =
      subst (GoesOn task more) (sym p.4) (record {
        earlier = lines;
        asked = p.2;
        split = ap (λ (t : Text). lines ++ text t ∷ []) p.3;
      })
  more_outside outcome (inr (inr p)) = subst (GoesOn task more) (sym p.2) tt

  more_facts : (goal : Goal) (what : Said) → said task.ontology form.Text line ≡ what
      → ReadGoal task lines goal → GoesOn task more (outcome_of_facts goal what)
  more_facts goal nothing is read = tt
  more_facts goal (refused why) is read = tt
  more_facts goal (names name) is read = tt
  more_facts goal (says facts) is read = record {
    earlier = read.earlier;
    snapshot = line;
    gives = record { asked = read.asked; says_facts = is };
    split = ap (λ (ls : List StreamLine). ls ++ text line ∷ []) read.split
        ∙ append_assoc read.earlier _ (text line ∷ []);
  }

  module _ (goal : Goal) (facts : List Fact) (steps : List ProofStep)
      (read : ReadSteps task lines goal facts steps) where
    split_more : (last : Text) → line ≡ last
        → more ≡ read.earlier ++ (first_lines task goal read.snapshot steps ++ text last ∷ [])
    split_more last is =
        ap (λ (t : Text). lines ++ text t ∷ []) is
        ∙ (ap (λ (ls : List StreamLine). ls ++ text last ∷ []) read.split
        ∙ append_assoc read.earlier (first_lines task goal read.snapshot steps)
        (text last ∷ []))

    one_step_more : (step : ProofStep) → first_lines task goal read.snapshot steps
        ++ text (step_text step) ∷ []
        ≡ first_lines task goal read.snapshot (steps ++ step ∷ [])
    one_step_more step =
        ap (λ (ls : List StreamLine). first_lines task goal read.snapshot [] ++ ls)
        (sym (map-append (λ (s : ProofStep). text (step_text s)) steps (step ∷ [])))

    more_step : (step : ProofStep) → line ≡ step_text step → (few : Bool)
        → GoesOn task more (cond few (Goes (Given goal facts (steps ++ step ∷ [])))
        (Refused cause.Malformed))
    more_step step is true = record {
      earlier = read.earlier;
      snapshot = read.snapshot;
      gives = read.gives;
      split = split_more (step_text step) is
          ∙ ap (λ (ls : List StreamLine). read.earlier ++ ls) (one_step_more step);
    }
    more_step step is false = tt

    more_steps : (outcome : Outcome) → ComesInSteps task.ontology goal facts steps line outcome
        → GoesOn task more outcome
    more_steps outcome (inl p) =
        subst (GoesOn task more) (sym p.2)
        (more_step p.0 p.1.tells (ltb (length steps) most_steps))
    more_steps outcome (inr (inl p)) =
        subst (GoesOn task more) (sym p.3) (record {
          earlier = read.earlier;
          snapshot = read.snapshot;
          gives = read.gives;
          split = split_more _ p.2;
        })
    more_steps outcome (inr (inr p)) = subst (GoesOn task more) (sym p.2) tt

goes_on : (task : Task) (lines : List StreamLine) (line : StreamLine) (stage : Stage)
    (outcome : Outcome) → WasRead task lines stage → ComesTo task stage line outcome
    → GoesOn task (lines ++ line ∷ []) outcome
goes_on task lines too_long stage outcome read comes =
    subst (GoesOn task (lines ++ too_long ∷ [])) (sym comes) tt
goes_on task lines (text line) Outside outcome read comes =
    more_outside task lines line outcome comes
goes_on task lines (text line) (Begun goal) outcome read comes =
    subst (GoesOn task (lines ++ text line ∷ [])) (sym comes)
    (more_facts task lines line goal (said task.ontology form.Text line) refl read)
goes_on task lines (text line) (Given goal facts steps) outcome read comes =
    more_steps task lines line goal facts steps read outcome comes
goes_on task lines (text line) (Whole proof) outcome read (inl p) =
    subst (GoesOn task (lines ++ text line ∷ [])) (sym p.3) tt
goes_on task lines (text line) (Whole proof) outcome read (inr p) =
    subst (GoesOn task (lines ++ text line ∷ [])) (sym p.1) tt

nothing_open : (task : Task) (lines : List StreamLine) (verdict : Bool) (before : Standing)
    → WasRead task lines (with_verdict verdict before).stage
nothing_open task lines true before = tt
nothing_open task lines false before = tt

stands_on : (task : Task) (lines : List StreamLine) (before after : Standing) (number : ℕ)
    (outcome : Outcome) (told : Text) → GoesOn task lines outcome
    → Replies before number outcome told after → WasRead task lines after.stage
stands_on task lines before after number (Goes stage) told goes replies =
    subst (λ (s : Standing). WasRead task lines s.stage) (sym replies.1) goes
stands_on task lines before after number (Refused why) told goes replies =
    subst (λ (s : Standing). WasRead task lines s.stage) (sym replies.1) tt
stands_on task lines before after number (Answered verdict) told goes replies =
    subst (λ (s : Standing). WasRead task lines s.stage) (sym replies.1)
    (nothing_open task lines verdict before)

-- after any lines
pub was_read : (task : Task) (done lines : List StreamLine) (number : ℕ) (before after : Standing)
    (told : Text) → WasRead task done before.stage
    → Told (verifies task) lines number before told after
    → WasRead task (done ++ lines) after.stage
was_read task done [] number before after told read tells =
    subst (λ (ls : List StreamLine). WasRead task ls after.stage) (sym (append-nil done))
    (subst (λ (s : Standing). WasRead task done s.stage) (sym tells.1) read)
was_read task done (line ∷ lines) number before after told read tells =
    let step : verifies task before number line tells.0 tells.2 = tells.3 in
    subst (λ (ls : List StreamLine). WasRead task ls after.stage)
    (append_assoc done (line ∷ []) lines)
    (was_read task (done ++ line ∷ []) lines (number + 1) tells.2 after tells.1
    (stands_on task (done ++ line ∷ []) before tells.2 number step.0 tells.0
    (goes_on task done line before.stage step.0 read step.1) step.2)
    tells.4)
