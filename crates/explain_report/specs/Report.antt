-- The report of proofs.
use Rattle.std.specs.Prelude.{◌≡◌, ◌⊎◌, ℕ, ◌+◌, List, [], ◌++◌, codes}
use Rattle.dl_syntax.specs.declared.facts.Fact.{Fact}
use Rattle.report_text.specs.Names.{Text}
use Rattle.report_text.specs.declared.item.Cause.TheVariants.{Contradiction}
use Rattle.report_text.specs.Lines.{refused_text, two_text}
use Rattle.consistency.specs.Least.{IsLeastClash, IsConsistentUnder}
use Rattle.run_proofs.specs.declared.proof.Goal.{Goal}
use Rattle.run_proofs.specs.declared.proof.Goal.TheVariants.{Clash}
use Rattle.run_proofs.specs.declared.proof.Proof.{Proof}
use Rattle.run_proofs.specs.Texts.{proof_text}
use Rattle.stream_report.specs.Told.{Step, Manner}
use Rattle.explain_report.specs.declared.outcome.Outcome.{Outcome}
use Rattle.explain_report.specs.declared.outcome.Outcome.TheVariants.{Skipped, Refused, Says}
use Rattle.explain_report.specs.Answers.{Task, AreAnswers, Proves, ProveAll, proofs_text}
use Rattle.explain_report.specs.Outcome.{outcome_of}

-- how many lines were accepted, and how many were refused
pub record Counts : Type 0 where
  pub accepted : ℕ
  pub refused : ℕ

-- before the first line
abbrev pub start : Counts
start = record { accepted = 0; refused = 0 }

abbrev pub accepted_text : ℕ → ℕ → Text
accepted_text line number = two_text (codes "line ") line (codes " accepted ") number

abbrev pub end_text : ℕ → ℕ → Text
end_text accepted refused = two_text (codes "end accepted ") accepted (codes " refused ") refused

-- a consistent snapshot is told with a proof of each answer of each leaf
pub record TellsAnswers (task : Task) (snapshot : List Fact) (line number : ℕ)
    (told : Text) : Type 0
  where
    pub consistent : IsConsistentUnder task.ontology snapshot
    pub goals : List Goal
    pub are : AreAnswers task snapshot goals
    pub proofs : List Proof
    pub prove : ProveAll task snapshot goals proofs
    pub is : told ≡ accepted_text line number ++ proofs_text task proofs

-- and a contradiction with a proof of the least clash that is met
pub record TellsContradiction (task : Task) (snapshot : List Fact) (line : ℕ) (told : Text) : Type 0
  where
    pub number : ℕ
    pub least : IsLeastClash task.ontology snapshot number
    pub proof : Proof
    pub proves : Proves task snapshot (Clash number) proof
    pub is : told ≡ refused_text line (Contradiction number)
        ++ proof_text task.ontology task.queries proof

-- what is told of a line of this outcome
abbrev pub Replies : Task → Counts → ℕ → Outcome → Text → Counts → Type 0
Replies task before line Skipped told after = (told ≡ []) × (after ≡ before)
Replies task before line (Refused why) told after =
    (told ≡ refused_text line why) × (after ≡ record before { refused = before.refused + 1 })
Replies task before line (Says snapshot) told after =
    (TellsAnswers task snapshot line (before.accepted + 1) told
    × (after ≡ record before { accepted = before.accepted + 1 }))
    ⊎ (TellsContradiction task snapshot line told
    × (after ≡ record before { refused = before.refused + 1 }))

-- what is told of a line
abbrev pub explains : Task → Step Counts
explains task before number line told after =
    Replies task before number (outcome_of task.ontology line) told after

-- and of all lines, with the counts last
abbrev pub explaining : Task → Manner Counts
explaining task = record {
  opening = [];
  step = explains task;
  closes = λ after last. last ≡ end_text after.accepted after.refused;
}

-- a text gained what is told of a line of this outcome
pub record TellsReply (task : Task) (before after : Counts) (line : ℕ) (outcome : Outcome)
    (old new : Text) : Type 0 where
  pub told : Text
  pub replies : Replies task before line outcome told after
  pub gains : new ≡ old ++ told

-- a text gained what is told of a consistent snapshot
pub record TellsMoreAnswers (task : Task) (snapshot : List Fact) (line number : ℕ) (old new : Text)
    : Type 0 where
  pub told : Text
  pub tells : TellsAnswers task snapshot line number told
  pub gains : new ≡ old ++ told

-- or of a contradiction
pub record TellsMoreContradiction (task : Task) (snapshot : List Fact) (line : ℕ) (old new : Text)
    : Type 0 where
  pub told : Text
  pub tells : TellsContradiction task snapshot line told
  pub gains : new ≡ old ++ told
