-- How much of a proof was read.
use Rattle.std.specs.Prelude.{ℕ, ◌≤◌, List, length}
use Rattle.dl_syntax.specs.declared.facts.Fact.{Fact}
use Rattle.run_proofs.specs.declared.proof.ProofStep.{ProofStep}
use Rattle.verify_report.specs.declared.stage.Stage.{Stage}
use Rattle.verify_report.specs.declared.stage.Stage.TheVariants.{Outside, Begun, Given, Whole}

-- a proof has at most so many steps
abbrev pub most_steps : ℕ
most_steps = 1048576

-- the facts are no more than a line writes, and the steps no more than a proof may have
pub record AreFew (facts : List Fact) (steps : List ProofStep) : Type 0 where
  pub few_facts : length facts ≤ 65536
  pub few_steps : length steps ≤ most_steps

-- what was read has no more
abbrev pub HasFew : Stage → Type 0
HasFew Outside = Unit {0}
HasFew (Begun goal) = Unit {0}
HasFew (Given goal facts steps) = AreFew facts steps
HasFew (Whole proof) = AreFew proof.facts proof.steps
