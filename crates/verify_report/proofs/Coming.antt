-- What a line comes to, by what was read of it.
use Rattle.std.proofs.Common.{◌≡◌, List, inl, inr}
use Rattle.std.specs.Prelude.{Option, Some, None, MatchOption}
use Rattle.dl_syntax.specs.declared.facts.Fact.{Fact}
use Rattle.dl_syntax.specs.Ontology.{Declared}
use Rattle.tcq_syntax.specs.Tcq.{Tcq}
use Rattle.report_text.specs.Names.{Text}
use Rattle.run_proofs.specs.declared.proof.Goal.{Goal}
use Rattle.run_proofs.specs.declared.proof.ProofStep.{ProofStep}
use Rattle.run_proofs.specs.declared.proof.Ending.{Ending}
use Rattle.run_proofs.specs.Texts.{goal_text, ending_text, IsNoStep}
use Rattle.run_proofs.specs.Asking.{IsAsked, IsNoGoal, IsToldEnding, IsNoEnding}
use Rattle.verify_report.specs.declared.outcome.Outcome.{Outcome}
use Rattle.verify_report.specs.Outcome.{IsPassedOver, ComesOutside, ComesInSteps}
use Rattle.verify_report.specs.Outcome.{outcome_of_goal, outcome_of_ending}

-- it isn't passed over, and begins a proof of this goal, or of none
pub comes_asked : (o : Declared) (queries : List Tcq) (line : Text) (goal : Option Goal)
    (outcome : Outcome) → (¬ IsPassedOver o line)
    → MatchOption goal (IsNoGoal o queries line)
    (λ g. IsAsked o queries g × (line ≡ goal_text o.individuals queries g))
    → outcome ≡ outcome_of_goal goal → ComesOutside o queries line outcome
comes_asked o queries line None outcome stays read is = inr (inr (stays, read, is))
comes_asked o queries line (Some g) outcome stays read is =
    inr (inl (g, stays, read.0, read.1, is))

-- it is no step's, and tells this ending, or none
pub comes_ended : (o : Declared) (goal : Goal) (facts : List Fact) (steps : List ProofStep)
    (line : Text) (ending : Option Ending) (outcome : Outcome) → IsNoStep line
    → MatchOption ending (IsNoEnding o.individuals line)
    (λ e. IsToldEnding o.individuals e × (line ≡ ending_text o.individuals e))
    → outcome ≡ outcome_of_ending goal facts steps ending
    → ComesInSteps o goal facts steps line outcome
comes_ended o goal facts steps line None outcome none read is = inr (inr (none, read, is))
comes_ended o goal facts steps line (Some e) outcome none read is =
    inr (inl (e, read.0, read.1, is))
