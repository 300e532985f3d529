-- Lines that give a proof, and what stands in the lines that were read of one.
use Rattle.std.specs.Prelude.{◌≡◌, ◌<◌, ◌≤◌, ◌^◌, List, [], ◌∷◌, ◌++◌, codes, length, map}
use Rattle.std.specs.List.{All}
use Rattle.dl_syntax.specs.declared.facts.Fact.{Fact}
use Rattle.edge_io.specs.Lines.{Item as StreamLine, text}
use Rattle.forms.specs.declared.StreamForm.TheVariants as form
use Rattle.snapshot_reader.specs.Said.{says, said}
use Rattle.report_text.specs.Names.{Text}
use Rattle.run_proofs.specs.declared.proof.Goal.{Goal}
use Rattle.run_proofs.specs.declared.proof.ProofStep.{ProofStep}
use Rattle.run_proofs.specs.declared.proof.Proof.{Proof}
use Rattle.run_proofs.specs.Texts.{goal_text, step_text, ending_text}
use Rattle.run_proofs.specs.Asking.{IsAsked, IsToldEnding}
use Rattle.verify_report.specs.declared.stage.Stage.{Stage}
use Rattle.verify_report.specs.declared.stage.Stage.TheVariants.{Outside, Begun, Given, Whole}
use Rattle.verify_report.specs.Outcome.{Task}
use Rattle.verify_report.specs.Stages.{most_steps}

-- the first lines of a proof of the goal: what is to be shown, a snapshot, and steps
abbrev pub first_lines : Task → Goal → Text → List ProofStep → List StreamLine
first_lines task goal snapshot steps =
    text (goal_text task.ontology.individuals task.queries goal) ∷ text snapshot
    ∷ map (λ step. text (step_text step)) steps

-- all of its lines but the last
abbrev pub lines_before_end : Task → Proof → Text → List StreamLine
lines_before_end task proof snapshot =
    first_lines task proof.goal snapshot proof.steps
    ++ text (ending_text task.ontology.individuals proof.ending) ∷ []

-- all of its lines
abbrev pub lines_of : Task → Proof → Text → List StreamLine
lines_of task proof snapshot = lines_before_end task proof snapshot ++ text (codes "end") ∷ []

-- the goal is there, and the line says the facts
pub record Gives (task : Task) (goal : Goal) (facts : List Fact) (snapshot : Text) : Type 0 where
  pub asked : IsAsked task.ontology task.queries goal
  pub says_facts : said task.ontology form.Text snapshot ≡ says facts

-- ---- what was read of a proof stands last in the lines

pub record ReadGoal (task : Task) (lines : List StreamLine) (goal : Goal) : Type 0 where
  pub earlier : List StreamLine
  pub asked : IsAsked task.ontology task.queries goal
  pub split : lines ≡ earlier
      ++ text (goal_text task.ontology.individuals task.queries goal) ∷ []

pub record ReadSteps (task : Task) (lines : List StreamLine) (goal : Goal) (facts : List Fact)
    (steps : List ProofStep) : Type 0 where
  pub earlier : List StreamLine
  pub snapshot : Text
  pub gives : Gives task goal facts snapshot
  pub split : lines ≡ earlier ++ first_lines task goal snapshot steps

pub record ReadProof (task : Task) (lines : List StreamLine) (proof : Proof) : Type 0 where
  pub earlier : List StreamLine
  pub snapshot : Text
  pub gives : Gives task proof.goal proof.facts snapshot
  pub split : lines ≡ earlier ++ lines_before_end task proof snapshot

abbrev pub WasRead : Task → List StreamLine → Stage → Type 0
WasRead task lines Outside = Unit {0}
WasRead task lines (Begun goal) = ReadGoal task lines goal
WasRead task lines (Given goal facts steps) = ReadSteps task lines goal facts steps
WasRead task lines (Whole proof) = ReadProof task lines proof

-- the lines end with a proof that was read to its end
pub record EndWithProof (task : Task) (lines : List StreamLine) (proof : Proof) : Type 0 where
  pub earlier : List StreamLine
  pub snapshot : Text
  pub gives : Gives task proof.goal proof.facts snapshot
  pub split : lines ≡ earlier ++ lines_of task proof snapshot

-- ---- proofs that can be read

abbrev pub IsSmallStep : ProofStep → Type 0
IsSmallStep step = (step.from < 2 ^ 32) × (step.inclusion < 2 ^ 32)

-- what the proof names is there, its numbers fit, and it has no more steps than a proof may have
pub record IsReadable (task : Task) (proof : Proof) : Type 0 where
  pub asked : IsAsked task.ontology task.queries proof.goal
  pub small : All IsSmallStep proof.steps
  pub few : length proof.steps ≤ most_steps
  pub told : IsToldEnding task.ontology.individuals proof.ending
