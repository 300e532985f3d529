-- What goals ask, and what a proof of one is.
use Rattle.std.specs.Prelude.{◌≡◌, ◌<◌, ℕ, List, Option, Some, None, length}
use Rattle.std.specs.Option.{option_map}
use Rattle.dl_syntax.specs.declared.facts.Fact.{Fact}
use Rattle.dl_syntax.specs.declared.queries.Cq.{Cq}
use Rattle.dl_syntax.specs.Ontology.{Declared}
use Rattle.tcq_syntax.specs.Tcq.{Tcq}
use Rattle.perfect_ref.specs.Plain.{encoded, Reachable, HoldsOfMore}
use Rattle.consistency.specs.Asking.{query_of}
use Rattle.run_proofs.specs.declared.proof.Goal.{Goal}
use Rattle.run_proofs.specs.declared.proof.Goal.TheVariants as goal
use Rattle.run_proofs.specs.declared.proof.Proof.{Proof}
use Rattle.run_proofs.specs.declared.proof.ProofStep.{ProofStep}
use Rattle.run_proofs.specs.Growing.{run_after, AllMake}
use Rattle.run_proofs.specs.Shows.{leaf_at, clash_of, Ends, Shows}
use Rattle.proof_search.specs.declared.showing.Shown.{Shown}

-- the query that asks what is to be shown: that of the leaf, or of the clash
abbrev pub asked : Declared → List Tcq → Goal → Option Cq
asked o queries (goal.Answer query leaf row) = leaf_at queries query leaf
asked o queries (goal.Clash number) = option_map query_of (clash_of o.clashes number)

-- the query reaches more queries than there is room for
abbrev pub ReachesMore : Declared → Option Cq → ℕ → Type 0
ReachesMore o None room = ⊥
ReachesMore o (Some q) room = HoldsOfMore (Reachable (encoded o) q) room

-- the steps each make something, and by the ending the run that they lead to shows the goal
abbrev pub ShowsGoal : Declared → List Tcq → List Fact → Goal → Shown → Type 0
ShowsGoal o queries facts g shown = AllMake o.inclusions facts shown.steps.items
    × Ends o queries (run_after o.inclusions facts shown.steps.items) g shown.ending

-- it shows the goal by a run of the facts
pub record IsProofOf (o : Declared) (queries : List Tcq) (facts : List Fact) (g : Goal)
    (proof : Proof) : Type 0 where
  pub facts_are : proof.facts ≡ facts
  pub goal_is : proof.goal ≡ g
  pub shows : Shows o queries proof

-- it has fewer steps than there is room for queries
abbrev pub IsShort : ℕ → List ProofStep → Type 0
IsShort room steps = 0 < room → length steps < room
