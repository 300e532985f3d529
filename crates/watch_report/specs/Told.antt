-- What a report tells of the lines of a stream.
use Rattle.std.specs.Prelude.{◌≡◌, ℕ, Bool, true, false, Option, None, Some, List, [], ◌∷◌, length}
use Rattle.dl_syntax.specs.Rows.{Relation}
use Rattle.tcq_syntax.specs.Histories.{History, with_snapshot, with_name}
use Rattle.tcq_syntax.specs.Kept.{IsKeptSize}
use Rattle.tcq_syntax.specs.Tcq.{Tcq}
use Rattle.edge_io.specs.Lines.{Item as StreamLine}
use Rattle.report_text.specs.declared.event.Event.{Event}
use Rattle.report_text.specs.declared.event.Event.TheVariants.{Accepted, Declared, Refused}
use Rattle.monitor_core.specs.Answering.{AreRowsOf, AreAllAnswers}
use Rattle.monitor_core.specs.Setting.{Setting}
use Rattle.monitor_core.specs.Standing.{count_of}
use Rattle.watch_report.specs.Outcome.{Outcome, skip, refused, declares, accepted, HasOutcome}
use Rattle.watch_report.specs.Task.{Task, ontology_after}

-- for each query its answers after the history, over the individuals of the ontology and those that
-- came with the history
pub record Answered (setting : Setting) (history : History) (relations : List Relation) : Type 0
  where
    pub shaped : AreRowsOf (ontology_after setting history) setting.queries relations
    pub exact : AreAllAnswers (ontology_after setting history) setting.queries history relations

-- for each query how much is kept of it after the history
abbrev pub AreSizes : Setting → History → List Tcq → List ℕ → Type 0
AreSizes setting history [] [] = Unit {0}
AreSizes setting history [] (size ∷ sizes) = ⊥
AreSizes setting history (query ∷ queries) [] = ⊥
AreSizes setting history (query ∷ queries) (size ∷ sizes) =
    IsKeptSize setting.ontology.inclusions (length setting.ontology.individuals) history
    (query ∷ []) size × AreSizes setting history queries sizes

-- the sizes are there where they are asked for
abbrev pub AreAskedSizes : Bool → Setting → History → Option (List ℕ) → Type 0
AreAskedSizes are_asked setting history None = are_asked ≡ false
AreAskedSizes are_asked setting history (Some sizes) =
    (are_asked ≡ true) × AreSizes setting history setting.queries sizes

-- the event tells that the line with this number was accepted, what holds after the history, and
-- how much is kept
pub record TellsAccepted (task : Task) (after : History) (line : ℕ) (told : List Event) : Type 0
  where
    pub relations : List Relation
    pub answered : Answered task.setting after relations
    pub kept : Option (List ℕ)
    pub sizes : AreAskedSizes task.options.sizes task.setting after kept
    pub is : told ≡ Accepted line (count_of after) relations kept ∷ []

-- what is told of a line with this number and outcome after a history, and the history then
abbrev pub Replies : Task → History → ℕ → Outcome → List Event → History → Type 0
Replies task history line skip told after = (told ≡ []) × (after ≡ history)
Replies task history line (refused cause) told after =
    (told ≡ Refused line cause ∷ []) × (after ≡ history)
Replies task history line (declares name) told after =
    (told ≡ Declared line name ∷ []) × (after ≡ with_name name history)
Replies task history line (accepted snapshot) told after = (after ≡ with_snapshot snapshot history)
    × TellsAccepted task after line told

-- what is told of one line
pub record TellsLine (task : Task) (history : History) (line : ℕ) (item : StreamLine)
    (told : List Event) (after : History) : Type 0 where
  pub outcome : Outcome
  pub has : HasOutcome task.setting history task.options.form item outcome
  pub replies : Replies task history line outcome told after
