-- Laws of the report of an audit.
use Rattle.std.specs.Prelude.{◌≡◌, ℕ, List}
use Rattle.std.specs.List.{All}
use Rattle.dl_syntax.specs.declared.names.IndId.{IndId}
use Rattle.dl_syntax.specs.declared.facts.Fact.{Fact}
use Rattle.dl_syntax.specs.declared.queries.Cq.{Cq}
use Rattle.dl_syntax.specs.Chase.{IsConsistent}
use Rattle.dl_syntax.specs.Facts.{HasNoNull}
use Rattle.dl_syntax.specs.Match.{Certain}
use Rattle.ucq_join.specs.Answers.{IsAnswer}
use Rattle.stream_report.specs.Laws as streams
use Rattle.report_text.specs.Names.{Text}
use Rattle.model_audit.specs.declared.examining.Finding.TheVariants.{Model}
use Rattle.audit_report.specs.Report.{Task, TellsAudit, audits, auditing}

-- one text is told of a line, and one standing comes after it
abbrev pub OneLine : Type 0
OneLine = (task : Task) → streams.IsOneValued (audits task)

-- the report of the same lines is one text
abbrev pub OneReport : Type 0
OneReport = (task : Task) → streams.OneReport (auditing task)

-- so is the report of complete lines
abbrev pub OnePart : Type 0
OnePart = (task : Task) → streams.OnePart (auditing task)

-- what a run that was cut short wrote is a beginning of each report
abbrev pub CutShort : Type 0
CutShort = (task : Task) → streams.CutShort (auditing task)

-- where a line is told as a model, the snapshot is consistent, and each certain tuple of a query
-- has a match in the model
abbrev pub ModelsShow : Type 0
ModelsShow =
    (task : Task) (snapshot model : List Fact) (line : ℕ) (told : Text)
    (tells : TellsAudit task snapshot model line told)
    → All HasNoNull snapshot
    → tells.finding ≡ Model
    → IsConsistent task.ontology.inclusions task.ontology.clashes snapshot
    × ((q : Cq) (row : List IndId) → Certain task.ontology.inclusions q snapshot row
    → IsAnswer model q row)
