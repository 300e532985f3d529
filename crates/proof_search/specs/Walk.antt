-- A run on the way back from a query of the rewriting to the first one.
use Rattle.std.specs.Prelude.{◌≡◌, ◌≤◌, ◌+◌, ◌*◌, List, length}
use Rattle.std.specs.List.{Contains}
use Rattle.dl_syntax.specs.declared.facts.Fact.{Fact}
use Rattle.dl_syntax.specs.Ontology.{Declared}
use Rattle.dl_syntax.proofs.Simulation.{Kept}
use Rattle.run_proofs.specs.declared.proof.ProofStep.{ProofStep}
use Rattle.run_proofs.specs.Growing.{run_after, AllMake}

-- the steps lead from the facts to the run
pub record HasSteps (o : Declared) (facts : List Fact) (steps : List ProofStep) (run : List Fact)
    : Type 0 where
  pub make : AllMake o.inclusions facts steps
  pub leads : run_after o.inclusions facts steps ≡ run
  pub short : length run ≤ length facts + 2 * length steps

-- the run has each of the facts, and for a fact of a hidden role the pair and the concept for which
-- it stands
abbrev pub AreKept : Declared → List Fact → List Fact → Type 0
AreKept o run known =
    (f : Fact) → Contains known f → Kept (length o.roles) o.inclusions run f
