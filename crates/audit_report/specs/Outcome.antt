-- What a line of an audit's input comes to.
use Rattle.std.specs.Prelude.{◌≡◌, ℕ, ◌≤◌, Bool, true, if◌then◌else◌, List, length}
use Rattle.dl_syntax.specs.Ontology.{Declared}
use Rattle.edge_io.specs.Lines.{Item as StreamLine, text, too_long}
use Rattle.forms.specs.declared.StreamForm.TheVariants.{Text}
use Rattle.snapshot_reader.specs.Said.{Cause as SaidCause, is_malformed, unknown, wrong_kind}
use Rattle.snapshot_reader.specs.Said.{undeclared, too_many_facts, Said, nothing, refused, names}
use Rattle.snapshot_reader.specs.Said.{says, said}
use Rattle.snapshot_reader.specs.ModelLines.{is_model_line, model_said}
use Rattle.report_text.specs.declared.item.Cause.{Cause}
use Rattle.report_text.specs.declared.item.Cause.TheVariants as cause
use Rattle.audit_report.specs.declared.outcome.Outcome.{Outcome}
use Rattle.audit_report.specs.declared.outcome.Outcome.TheVariants.{Skipped, Refused, Waits}
use Rattle.audit_report.specs.declared.outcome.Outcome.TheVariants.{Answered}

-- the cause as a report tells it
abbrev pub told_cause : SaidCause → Cause
told_cause is_malformed = cause.Malformed
told_cause (unknown name) = cause.Unknown name
told_cause (wrong_kind name) = cause.WrongKind name
told_cause (undeclared name) = cause.Undeclared name
told_cause too_many_facts = cause.TooManyFacts

-- a snapshot line waits for its model; a contradiction is no fault, and no line declares a name
abbrev pub outcome_of_snapshot : Said → Outcome
outcome_of_snapshot nothing = Skipped
outcome_of_snapshot (refused why) = Refused (told_cause why)
outcome_of_snapshot (names name) = Refused cause.Malformed
outcome_of_snapshot (says snapshot) = Waits snapshot

-- a model line is answered
abbrev pub outcome_of_model : Said → Outcome
outcome_of_model nothing = Skipped
outcome_of_model (refused why) = Refused (told_cause why)
outcome_of_model (names name) = Refused cause.Malformed
outcome_of_model (says model) = Answered model

-- a model line without a snapshot that waits is malformed before any other fault
abbrev pub outcome_of_text : Declared → Bool → List ℕ → Outcome
outcome_of_text ontology is_waiting line =
    if is_model_line line
    then (if is_waiting then outcome_of_model (model_said ontology line)
    else Refused cause.Malformed)
    else outcome_of_snapshot (said ontology Text line)

-- what a line comes to where a snapshot waits, or none does
abbrev pub outcome_of : Declared → Bool → StreamLine → Outcome
outcome_of ontology is_waiting too_long = Refused cause.TooLong
outcome_of ontology is_waiting (text line) = outcome_of_text ontology is_waiting line

-- the facts that the outcome has are no more than a line writes
abbrev pub HasFewFacts : Outcome → Type 0
HasFewFacts Skipped = Unit {0}
HasFewFacts (Refused why) = Unit {0}
HasFewFacts (Waits snapshot) = length snapshot ≤ 65536
HasFewFacts (Answered model) = length model ≤ 65536

-- a model line is answered only where a snapshot waits
abbrev pub IsAwaited : Bool → Outcome → Type 0
IsAwaited is_waiting Skipped = Unit {0}
IsAwaited is_waiting (Refused why) = Unit {0}
IsAwaited is_waiting (Waits snapshot) = Unit {0}
IsAwaited is_waiting (Answered model) = is_waiting ≡ true
