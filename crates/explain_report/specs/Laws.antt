-- Laws of the report.
use Rattle.std.specs.Prelude.{◌≡◌, ℕ, List}
use Rattle.std.specs.List.{All, Contains}
use Rattle.dl_syntax.specs.declared.names.IndId.{IndId}
use Rattle.dl_syntax.specs.declared.facts.Fact.{Fact}
use Rattle.report_text.specs.Names.{Text}
use Rattle.run_proofs.specs.declared.proof.Goal.{Goal}
use Rattle.run_proofs.specs.declared.proof.Goal.TheVariants.{Answer}
use Rattle.run_proofs.specs.declared.proof.Proof.{Proof}
use Rattle.run_proofs.specs.Shows.{Shows, Holds}
use Rattle.explain_report.specs.Answers.{Task, Proves}
use Rattle.explain_report.specs.Report.{TellsAnswers, TellsContradiction}

-- some proof of the list is of the goal
abbrev pub IsProved : Task → List Fact → List Proof → Goal → Type 0
IsProved task snapshot proofs g =
    (proof : Proof) × Contains proofs proof × Proves task snapshot g proof

-- of an accepted line a proof is told of each answer of each leaf, and of nothing else: each proof
-- that is told shows its goal, and that goal is an answer of a leaf
pub record ToldAnswers (task : Task) (snapshot : List Fact) (proofs : List Proof) : Type 0 where
  pub shown : All (Shows task.ontology task.queries) proofs
  pub certain : (proof : Proof) → Contains proofs proof
      → Holds task.ontology task.queries snapshot proof.goal
  pub told : (query leaf : ℕ) (row : List IndId)
      → Holds task.ontology task.queries snapshot (Answer query leaf row)
      → IsProved task snapshot proofs (Answer query leaf row)

abbrev pub AnswersAreTold : Type 0
AnswersAreTold =
    (task : Task) (snapshot : List Fact) (line number : ℕ) (told : Text)
    (tells : TellsAnswers task snapshot line number told)
    → ToldAnswers task snapshot tells.proofs

-- what is told of a contradiction is shown
abbrev pub ContradictionsAreShown : Type 0
ContradictionsAreShown =
    (task : Task) (snapshot : List Fact) (line : ℕ) (told : Text)
    (tells : TellsContradiction task snapshot line told)
    → Shows task.ontology task.queries tells.proof

-- answers of the same facts are told in one order
abbrev pub OneOrder : Type 0
OneOrder = (task : Task) (snapshot : List Fact) (line number : ℕ) (one other : Text)
    (first : TellsAnswers task snapshot line number one)
    (second : TellsAnswers task snapshot line number other)
    → first.goals ≡ second.goals
