-- What an auditor stands for, and how it replies to a line.
use Rattle.std.specs.Prelude.{◌≡◌, ℕ, Option, List, ◌++◌}
use Rattle.std.specs.List.{All}
use Rattle.dl_syntax.specs.declared.facts.Fact.{Fact}
use Rattle.dl_syntax.specs.Ontology.{Declared}
use Rattle.tcq_syntax.specs.Tcq.{Tcq}
use Rattle.report_text.specs.Names.{Text}
use Rattle.model_audit.specs.declared.outcome.Audit.{Audit}
use Rattle.model_audit.specs.declared.outcome.Audit.TheVariants.{Missing, Broken, Clash, Model}
use Rattle.audit_report.specs.declared.outcome.Outcome.{Outcome}
use Rattle.audit_report.specs.Report.{Task, Standing, TellsAudit, Replies}
use Rattle.audit_report.specs.Rows.{AreAllNamed}

abbrev pub task_of : Declared → List Tcq → Task
task_of ontology queries = record { ontology = ontology; queries = queries }

abbrev pub standing_of : Option (List Fact) → ℕ → ℕ → Standing
standing_of waiting models refused =
    record { waiting = waiting; models = models; refused = refused }

-- the rows that an audit has are of individuals that have names
abbrev pub HasNamedRows : Declared → Audit → Type 0
HasNamedRows o (Missing place) = Unit {0}
HasNamedRows o (Broken inclusion fact) = Unit {0}
HasNamedRows o (Clash number) = Unit {0}
HasNamedRows o (Model rows) = All (AreAllNamed o) rows.items

-- a text gained what is told of a model
pub record TellsMoreAudit (task : Task) (snapshot model : List Fact) (line : ℕ)
    (before now : Text) : Type 0 where
  pub told : Text
  pub tells : TellsAudit task snapshot model line told
  pub gains : now ≡ before ++ told

-- and what is told of a line of this outcome
pub record TellsReply (task : Task) (before after : Standing) (line : ℕ) (outcome : Outcome)
    (old new : Text) : Type 0 where
  pub told : Text
  pub replies : Replies task before line outcome told after
  pub gains : new ≡ old ++ told
