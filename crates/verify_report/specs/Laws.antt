-- Laws of the report of a verification.
use Rattle.std.specs.Prelude.{◌≡◌, ℕ, ◌+◌, true, false, List, [], ◌∷◌, ◌++◌, length}
use Rattle.dl_syntax.specs.Ontology.{IsOntology}
use Rattle.edge_io.specs.Lines.{Item as StreamLine}
use Rattle.forms.specs.declared.StreamForm.TheVariants as form
use Rattle.snapshot_reader.specs.Said.{says, said}
use Rattle.stream_report.specs.Laws as streams
use Rattle.stream_report.specs.Told.{Told}
use Rattle.report_text.specs.Names.{Text}
use Rattle.run_proofs.specs.declared.proof.Proof.{Proof}
use Rattle.run_proofs.specs.Shows.{Shows, Holds}
use Rattle.run_proofs.specs.Laws.{AreApart}
use Rattle.verify_report.specs.declared.stage.Stage.TheVariants.{Outside, Whole}
use Rattle.verify_report.specs.Lines.{verdict_text}
use Rattle.verify_report.specs.Outcome.{Task}
use Rattle.verify_report.specs.Report.{Standing, start, with_verdict, verifies, verifying}
use Rattle.verify_report.specs.Certificates.{EndWithProof, IsReadable, lines_of}

-- no two individuals have one name, nor have two queries, whose names are spelled as names: so a
-- line names one goal, or one ending
pub record NamesApart (task : Task) : Type 0 where
  pub sound : IsOntology task.ontology
  pub apart : AreApart task.queries

-- one text is told of a line, and one standing comes after it
abbrev pub OneLine : Type 0
OneLine = (task : Task) → NamesApart task → streams.IsOneValued (verifies task)

-- the report of the same lines is one text
abbrev pub OneReport : Type 0
OneReport = (task : Task) → NamesApart task → streams.OneReport (verifying task)

-- so is the report of complete lines
abbrev pub OnePart : Type 0
OnePart = (task : Task) → NamesApart task → streams.OnePart (verifying task)

-- what a run that was cut short wrote is a beginning of each report
abbrev pub CutShort : Type 0
CutShort = (task : Task) → NamesApart task → streams.CutShort (verifying task)

-- a whole proof was read, and its goal holds: the row is a certain answer of the leaf over the
-- facts, or some run of the facts meets the clash
pub record IsShown (task : Task) (standing : Standing) : Type 0 where
  pub proof : Proof
  pub waits : standing.stage ≡ Whole proof
  pub shows : Shows task.ontology task.queries proof
  pub holds : Holds task.ontology task.queries proof.facts proof.goal

-- yes is told of nothing else
abbrev pub YesHolds : Type 0
YesHolds =
    (task : Task) (before after : Standing) (number : ℕ) (line : StreamLine) (told : Text)
    → verifies task before number line told after → told ≡ verdict_text number true
    → IsShown task before

-- a whole proof was read, which doesn't show its goal
pub record IsNotShown (task : Task) (standing : Standing) : Type 0 where
  pub proof : Proof
  pub waits : standing.stage ≡ Whole proof
  pub shows_not : ¬ Shows task.ontology task.queries proof

-- no is told of nothing else
abbrev pub NoShowsNot : Type 0
NoShowsNot =
    (task : Task) (before after : Standing) (number : ℕ) (line : StreamLine) (told : Text)
    → verifies task before number line told after → told ≡ verdict_text number false
    → IsNotShown task before

-- the lines end with all lines of a proof whose goal holds of the facts that its snapshot says
pub record EndShown (task : Task) (lines : List StreamLine) : Type 0 where
  pub proof : Proof
  pub read : EndWithProof task lines proof
  pub holds : Holds task.ontology task.queries proof.facts proof.goal

-- where yes is told of a line of a stream, it is the last line of such a proof
abbrev pub YesIsRead : Type 0
YesIsRead =
    (task : Task) (lines : List StreamLine) (line : StreamLine) (told verdict : Text)
    (before after : Standing)
    → Told (verifies task) lines 1 start told before
    → verifies task before (1 + length lines) line verdict after
    → verdict ≡ verdict_text (1 + length lines) true
    → EndShown task (lines ++ line ∷ [])

-- where no proof is open, yes is told of all lines of a proof that shows its goal, and nothing else
abbrev pub ProofsAreTold : Type 0
ProofsAreTold =
    (task : Task) (proof : Proof) (snapshot : Text) (before : Standing) (number : ℕ)
    → before.stage ≡ Outside → IsReadable task proof
    → said task.ontology form.Text snapshot ≡ says proof.facts
    → Shows task.ontology task.queries proof
    → Told (verifies task) (lines_of task proof snapshot) number before
    (verdict_text (number + (3 + length proof.steps)) true) (with_verdict true before)
