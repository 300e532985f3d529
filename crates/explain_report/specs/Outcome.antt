-- What a line of the stream comes to.
use Rattle.std.specs.Prelude.{◌≤◌, length}
use Rattle.std.specs.List.{All}
use Rattle.dl_syntax.specs.Ontology.{Declared}
use Rattle.edge_io.specs.Lines.{Item as StreamLine, text, too_long}
use Rattle.forms.specs.declared.StreamForm.TheVariants.{Text}
use Rattle.snapshot_reader.specs.Laws.{IsDeclared}
use Rattle.snapshot_reader.specs.Said.{Cause as SaidCause, is_malformed, unknown, wrong_kind}
use Rattle.snapshot_reader.specs.Said.{undeclared, too_many_facts, Said, nothing, refused, names}
use Rattle.snapshot_reader.specs.Said.{says, said}
use Rattle.report_text.specs.declared.item.Cause.{Cause}
use Rattle.report_text.specs.declared.item.Cause.TheVariants as cause
use Rattle.explain_report.specs.declared.outcome.Outcome.{Outcome}
use Rattle.explain_report.specs.declared.outcome.Outcome.TheVariants.{Skipped, Refused, Says}

-- the cause as a report tells it
abbrev pub told_cause : SaidCause → Cause
told_cause is_malformed = cause.Malformed
told_cause (unknown name) = cause.Unknown name
told_cause (wrong_kind name) = cause.WrongKind name
told_cause (undeclared name) = cause.Undeclared name
told_cause too_many_facts = cause.TooManyFacts

-- no line declares a name
abbrev pub outcome_of_said : Said → Outcome
outcome_of_said nothing = Skipped
outcome_of_said (refused why) = Refused (told_cause why)
outcome_of_said (names name) = Refused cause.Malformed
outcome_of_said (says snapshot) = Says snapshot

abbrev pub outcome_of : Declared → StreamLine → Outcome
outcome_of ontology too_long = Refused cause.TooLong
outcome_of ontology (text line) = outcome_of_said (said ontology Text line)

-- the facts that the outcome has are of what the ontology declares, and no more than a line writes
abbrev pub HasKnownFacts : Declared → Outcome → Type 0
HasKnownFacts ontology Skipped = Unit {0}
HasKnownFacts ontology (Refused why) = Unit {0}
HasKnownFacts ontology (Says snapshot) =
    All (IsDeclared ontology) snapshot × (length snapshot ≤ 65536)
