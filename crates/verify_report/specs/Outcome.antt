-- What a line of a verification's input comes to.
use Rattle.std.specs.Prelude.{◌≡◌, ◌≢◌, ◌↔◌, ◌⊎◌, ◌<◌, ◌^◌, Bool, IsTrue, if◌then◌else◌, nat_lt}
use Rattle.std.specs.Prelude.{List, [], ◌∷◌, ◌++◌, codes, length, Option, Some, None}
use Rattle.dl_syntax.specs.declared.facts.Fact.{Fact}
use Rattle.dl_syntax.specs.Ontology.{Declared}
use Rattle.tcq_syntax.specs.Tcq.{Tcq}
use Rattle.edge_io.specs.Lines.{Item as StreamLine, text, too_long}
use Rattle.forms.specs.declared.StreamForm.TheVariants as form
use Rattle.snapshot_reader.specs.Said.{Cause as SaidCause, is_malformed, unknown, wrong_kind}
use Rattle.snapshot_reader.specs.Said.{undeclared, too_many_facts, Said, nothing, refused, names}
use Rattle.snapshot_reader.specs.Said.{says, said}
use Rattle.report_text.specs.Names.{Text}
use Rattle.report_text.specs.declared.item.Cause.{Cause}
use Rattle.report_text.specs.declared.item.Cause.TheVariants as cause
use Rattle.run_proofs.specs.declared.proof.Goal.{Goal}
use Rattle.run_proofs.specs.declared.proof.ProofStep.{ProofStep}
use Rattle.run_proofs.specs.declared.proof.Ending.{Ending}
use Rattle.run_proofs.specs.declared.proof.Proof.{Proof}
use Rattle.run_proofs.specs.Shows.{Shows}
use Rattle.run_proofs.specs.Texts.{goal_text, step_text, ending_text, IsNoStep}
use Rattle.run_proofs.specs.Asking.{IsAsked, IsNoGoal, IsToldEnding, IsNoEnding}
use Rattle.run_proofs.specs.Words.{EndsWord}
use Rattle.verify_report.specs.declared.stage.Stage.{Stage}
use Rattle.verify_report.specs.declared.stage.Stage.TheVariants.{Outside, Begun, Given, Whole}
use Rattle.verify_report.specs.declared.outcome.Outcome.{Outcome}
use Rattle.verify_report.specs.declared.outcome.Outcome.TheVariants.{Goes, Refused, Answered}
use Rattle.verify_report.specs.Stages.{most_steps, HasFew}

-- what proofs are verified against
pub record Task : Type 0 where
  pub ontology : Declared
  pub queries : List Tcq

-- ---- no proof is open

-- the line's first word, up to a space, is this one
abbrev pub HasFirstWord : Text → Text → Type 0
HasFirstWord word line = (rest : Text) × EndsWord rest × (line ≡ word ++ rest)

-- a line between proofs: one without tokens, or one that tells something else than a proof
abbrev pub IsPassedOver : Declared → Text → Type 0
IsPassedOver o line =
    HasFirstWord (codes "line") line ⊎ HasFirstWord (codes "end") line
    ⊎ (said o form.Text line ≡ nothing)

-- it is passed over, any other line begins a proof of a goal that is there, or is malformed
abbrev pub ComesOutside : Declared → List Tcq → Text → Outcome → Type 0
ComesOutside o queries line outcome =
    (IsPassedOver o line × (outcome ≡ Goes Outside))
    ⊎ ((goal : Goal) × (¬ IsPassedOver o line) × IsAsked o queries goal
    × (line ≡ goal_text o.individuals queries goal) × (outcome ≡ Goes (Begun goal)))
    ⊎ ((¬ IsPassedOver o line) × IsNoGoal o queries line × (outcome ≡ Refused cause.Malformed))

-- such a line, where it begins a proof of this goal, or of none
abbrev pub outcome_of_goal : Option Goal → Outcome
outcome_of_goal None = Refused cause.Malformed
outcome_of_goal (Some goal) = Goes (Begun goal)

-- ---- the facts come next

-- the cause as a report tells it
abbrev pub told_cause : SaidCause → Cause
told_cause is_malformed = cause.Malformed
told_cause (unknown name) = cause.Unknown name
told_cause (wrong_kind name) = cause.WrongKind name
told_cause (undeclared name) = cause.Undeclared name
told_cause too_many_facts = cause.TooManyFacts

-- a line that says facts gives them; a contradiction is no fault, and no line declares a name
abbrev pub outcome_of_facts : Goal → Said → Outcome
outcome_of_facts goal nothing = Refused cause.Malformed
outcome_of_facts goal (refused why) = Refused (told_cause why)
outcome_of_facts goal (names name) = Refused cause.Malformed
outcome_of_facts goal (says facts) = Goes (Given goal facts [])

-- ---- steps come next, or the ending

-- the line of the step
pub record IsStepLine (line : Text) (step : ProofStep) : Type 0 where
  pub from_small : step.from < 2 ^ 32
  pub inclusion_small : step.inclusion < 2 ^ 32
  pub tells : line ≡ step_text step

-- a step is one more, unless there are as many as a proof may have
abbrev pub outcome_of_step : Goal → List Fact → List ProofStep → ProofStep → Outcome
outcome_of_step goal facts steps step =
    if nat_lt (length steps) most_steps then Goes (Given goal facts (steps ++ step ∷ []))
    else Refused cause.Malformed

abbrev pub whole_proof : Goal → List Fact → List ProofStep → Ending → Proof
whole_proof goal facts steps ending =
    record { facts = facts; goal = goal; steps = steps; ending = ending }

-- a line that is no step's, where it tells this ending, or none
abbrev pub outcome_of_ending : Goal → List Fact → List ProofStep → Option Ending → Outcome
outcome_of_ending goal facts steps None = Refused cause.Malformed
outcome_of_ending goal facts steps (Some ending) =
    Goes (Whole (whole_proof goal facts steps ending))

-- a line is a step's, or tells the ending, or is malformed
abbrev pub ComesInSteps : Declared → Goal → List Fact → List ProofStep → Text → Outcome → Type 0
ComesInSteps o goal facts steps line outcome =
    ((step : ProofStep) × IsStepLine line step × (outcome ≡ outcome_of_step goal facts steps step))
    ⊎ ((ending : Ending) × IsToldEnding o.individuals ending
    × (line ≡ ending_text o.individuals ending)
    × (outcome ≡ Goes (Whole (whole_proof goal facts steps ending))))
    ⊎ (IsNoStep line × IsNoEnding o.individuals line × (outcome ≡ Refused cause.Malformed))

-- ---- the last line comes next

-- it is there, and the proof shows its goal or doesn't, or the line is malformed
abbrev pub ComesAtEnd : Declared → List Tcq → Proof → Text → Outcome → Type 0
ComesAtEnd o queries proof line outcome =
    ((yes : Bool) × (line ≡ codes "end") × (IsTrue yes ↔ Shows o queries proof)
    × (outcome ≡ Answered yes))
    ⊎ ((line ≢ codes "end") × (outcome ≡ Refused cause.Malformed))

-- ---- what a line comes to where so much of a proof was read

abbrev pub ComesTo : Task → Stage → StreamLine → Outcome → Type 0
ComesTo task stage too_long outcome = outcome ≡ Refused cause.TooLong
ComesTo task Outside (text line) outcome = ComesOutside task.ontology task.queries line outcome
ComesTo task (Begun goal) (text line) outcome =
    outcome ≡ outcome_of_facts goal (said task.ontology form.Text line)
ComesTo task (Given goal facts steps) (text line) outcome =
    ComesInSteps task.ontology goal facts steps line outcome
ComesTo task (Whole proof) (text line) outcome =
    ComesAtEnd task.ontology task.queries proof line outcome

-- what was then read has no more facts and steps than may be
abbrev pub HasFewNow : Outcome → Type 0
HasFewNow (Goes stage) = HasFew stage
HasFewNow (Refused why) = Unit {0}
HasFewNow (Answered verdict) = Unit {0}
