-- What a verifier stands for, and how it replies to a line.
use Rattle.std.specs.Prelude.{◌≡◌, ℕ, List, ◌++◌}
use Rattle.dl_syntax.specs.Ontology.{Declared}
use Rattle.tcq_syntax.specs.Tcq.{Tcq}
use Rattle.report_text.specs.Names.{Text}
use Rattle.verify_report.specs.declared.stage.Stage.{Stage}
use Rattle.verify_report.specs.declared.outcome.Outcome.{Outcome}
use Rattle.verify_report.specs.Outcome.{Task}
use Rattle.verify_report.specs.Report.{Standing, Replies}

abbrev pub task_of : Declared → List Tcq → Task
task_of ontology queries = record { ontology = ontology; queries = queries }

abbrev pub standing_of : Stage → ℕ → ℕ → ℕ → Standing
standing_of stage shown others refused =
    record { stage = stage; yes = shown; no = others; refused = refused }

-- a text gained what is told of a line of this outcome
pub record TellsReply (before after : Standing) (line : ℕ) (outcome : Outcome) (old new : Text)
    : Type 0 where
  pub told : Text
  pub replies : Replies before line outcome told after
  pub gains : new ≡ old ++ told
