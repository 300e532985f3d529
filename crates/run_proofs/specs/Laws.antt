-- Laws of proofs.
use Rattle.std.specs.Prelude.{◌≡◌, ◌≢◌, ◌<◌, ◌^◌, ℕ, List}
use Rattle.std.specs.List.{All, AllPairs}
use Rattle.dl_syntax.specs.declared.facts.Fact.{Fact}
use Rattle.dl_syntax.specs.declared.ontology.Inclusion.{Inclusion}
use Rattle.dl_syntax.specs.Names.{IsName}
use Rattle.dl_syntax.specs.Ontology.{Declared, IsOntology}
use Rattle.dl_syntax.specs.Chase.{Run}
use Rattle.tcq_syntax.specs.Tcq.{Tcq}
use Rattle.run_proofs.specs.declared.proof.ProofStep.{ProofStep}
use Rattle.run_proofs.specs.declared.proof.Goal.{Goal}
use Rattle.run_proofs.specs.declared.proof.Ending.{Ending}
use Rattle.run_proofs.specs.declared.proof.Proof.{Proof}
use Rattle.run_proofs.specs.Growing.{run_after, AllMake}
use Rattle.run_proofs.specs.Shows.{Shows, Holds}
use Rattle.run_proofs.specs.Texts.{step_text, places_text, goal_text, ending_text}
use Rattle.run_proofs.specs.Asking.{IsAsked, IsToldEnding}

-- steps by places lead from a run to a run
abbrev pub StepsMakeRun : Type 0
StepsMakeRun = (inclusions : List Inclusion) (snapshot run : List Fact) (steps : List ProofStep)
    → Run inclusions snapshot run → Run inclusions snapshot (run_after inclusions run steps)

-- some steps, each of which makes something, lead from the snapshot's facts to the run
abbrev pub LeadsTo : List Inclusion → List Fact → List Fact → Type 0
LeadsTo inclusions snapshot run = (steps : List ProofStep) × AllMake inclusions snapshot steps
    × (run_after inclusions snapshot steps ≡ run)

-- such steps lead to each run
abbrev pub RunsHaveSteps : Type 0
RunsHaveSteps = (inclusions : List Inclusion) (snapshot run : List Fact)
    → Run inclusions snapshot run → LeadsTo inclusions snapshot run

-- what a proof shows holds
abbrev pub ShownHolds : Type 0
ShownHolds = (o : Declared) (queries : List Tcq) (proof : Proof) → Shows o queries proof
    → Holds o queries proof.facts proof.goal

-- lines tell one step: those of two steps are equal only where the steps are
abbrev pub OneStep : Type 0
OneStep = (step other : ProofStep) → step.from < 2 ^ 32 → step.inclusion < 2 ^ 32
    → other.from < 2 ^ 32 → other.inclusion < 2 ^ 32 → step_text step ≡ step_text other
    → step ≡ other

-- and two places
abbrev pub OnePairOfPlaces : Type 0
OnePairOfPlaces = (m n k l : ℕ) → m < 2 ^ 32 → n < 2 ^ 32 → k < 2 ^ 32 → l < 2 ^ 32
    → places_text m n ≡ places_text k l → (m ≡ k) × (n ≡ l)

-- the names of queries are spelled as names, and no two are equal
pub record AreApart (queries : List Tcq) : Type 0 where
  pub spelled : All (λ query. IsName query.name) queries
  pub distinct : AllPairs (λ p q. p.name ≢ q.name) queries

-- so a line tells one goal of those that are there
abbrev pub OneGoal : Type 0
OneGoal = (o : Declared) (queries : List Tcq) → IsOntology o → AreApart queries → (g h : Goal)
    → IsAsked o queries g → IsAsked o queries h
    → goal_text o.individuals queries g ≡ goal_text o.individuals queries h → g ≡ h

-- and one ending
abbrev pub OneEnding : Type 0
OneEnding = (o : Declared) → IsOntology o → (e f : Ending) → IsToldEnding o.individuals e
    → IsToldEnding o.individuals f
    → ending_text o.individuals e ≡ ending_text o.individuals f → e ≡ f
