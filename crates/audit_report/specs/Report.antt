-- The report of an audit.
use Rattle.std.specs.Prelude.{◌≡◌, ℕ, ◌+◌, ◌≤◌, List, [], ◌++◌, length, Option, None, Some, is_some}
use Rattle.dl_syntax.specs.declared.facts.Fact.{Fact}
use Rattle.dl_syntax.specs.Ontology.{Declared}
use Rattle.tcq_syntax.specs.Tcq.{Tcq}
use Rattle.report_text.specs.Names.{Text}
use Rattle.report_text.specs.Lines.{refused_text}
use Rattle.model_audit.specs.declared.examining.Finding.{Finding}
use Rattle.model_audit.specs.declared.examining.Finding.TheVariants.{Model}
use Rattle.model_audit.specs.Examining.{IsFound}
use Rattle.stream_report.specs.Told.{Step, Manner}
use Rattle.audit_report.specs.declared.outcome.Outcome.{Outcome}
use Rattle.audit_report.specs.declared.outcome.Outcome.TheVariants.{Skipped, Refused, Waits}
use Rattle.audit_report.specs.declared.outcome.Outcome.TheVariants.{Answered}
use Rattle.audit_report.specs.Lines.{finding_text, end_text}
use Rattle.audit_report.specs.Outcome.{outcome_of}
use Rattle.audit_report.specs.Rows.{TellsQueries}

-- what models are audited against
pub record Task : Type 0 where
  pub ontology : Declared
  pub queries : List Tcq

-- where an audit stands between lines: the snapshot that waits for its model, how many model lines
-- were answered, and how many lines were refused
pub record Standing : Type 0 where
  pub waiting : Option (List Fact)
  pub models : ℕ
  pub refused : ℕ

-- before the first line
abbrev pub start : Standing
start = record { waiting = None; models = 0; refused = 0 }

-- a model is told with the rows of each leaf, whatever else is found alone
abbrev pub TellsFinding : Task → List Fact → ℕ → Finding → Text → Type 0
TellsFinding task model line Model told =
    (rows : Text) × TellsQueries task.ontology model task.queries rows
    × (told ≡ finding_text line Model ++ rows)
TellsFinding task model line finding told = told ≡ finding_text line finding

-- what is found of a model for a snapshot is told
pub record TellsAudit (task : Task) (snapshot model : List Fact) (line : ℕ) (told : Text) : Type 0
  where
    pub finding : Finding
    pub found : IsFound task.ontology snapshot model finding
    pub tells : TellsFinding task model line finding told

-- what is told of a line of this outcome. A refused line leaves the snapshot that waits as it is, a
-- later snapshot takes its place, and a model line that is answered uses it up
abbrev pub Replies : Task → Standing → ℕ → Outcome → Text → Standing → Type 0
Replies task before line Skipped told after = (told ≡ []) × (after ≡ before)
Replies task before line (Refused why) told after =
    (told ≡ refused_text line why) × (after ≡ record before { refused = before.refused + 1 })
Replies task before line (Waits snapshot) told after =
    (told ≡ []) × (after ≡ record before { waiting = Some snapshot })
Replies task before line (Answered model) told after =
    (snapshot : List Fact) × (before.waiting ≡ Some snapshot)
    × TellsAudit task snapshot model line told
    × (after ≡ record { waiting = None; models = before.models + 1; refused = before.refused })

-- what is told of a line
abbrev pub audits : Task → Step Standing
audits task before number line told after =
    Replies task before number (outcome_of task.ontology (is_some before.waiting) line) told after

-- and of all lines, with the counts last
abbrev pub auditing : Task → Manner Standing
auditing task = record {
  opening = [];
  step = audits task;
  closes = λ after last. last ≡ end_text after.models after.refused;
}

-- the snapshot that waits has no more facts than a line writes
abbrev pub WaitsWithFew : Option (List Fact) → Type 0
WaitsWithFew None = Unit {0}
WaitsWithFew (Some snapshot) = length snapshot ≤ 65536
