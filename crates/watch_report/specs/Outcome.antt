-- What a line of a stream comes to, after a history.
use Rattle.std.specs.Prelude.{◌≡◌, ℕ, Bool, Option, None, Some, List}
use Rattle.dl_syntax.specs.declared.facts.Fact.{Fact}
use Rattle.dl_syntax.specs.Ontology.{Declared}
use Rattle.tcq_syntax.specs.Arrivals.{NameFault, fault_of_name}
use Rattle.tcq_syntax.specs.Arrivals.{Closed as IsClosed, NameTwice as IsTwice}
use Rattle.tcq_syntax.specs.Arrivals.{TooMany as AreTooMany, TooLarge as IsTooLarge}
use Rattle.tcq_syntax.specs.Histories.{History}
use Rattle.edge_io.specs.Lines.{Item as StreamLine, text, too_long}
use Rattle.forms.specs.declared.StreamForm.{StreamForm}
use Rattle.snapshot_reader.specs.Said.{Cause as SaidCause, is_malformed, unknown, wrong_kind}
use Rattle.snapshot_reader.specs.Said.{undeclared, too_many_facts, Said, nothing, names, says, said}
use Rattle.snapshot_reader.specs.Said.{refused as is_refused}
use Rattle.report_text.specs.declared.item.Cause.{Cause}
use Rattle.report_text.specs.declared.item.Cause.TheVariants.{TooLong, Malformed, Unknown}
use Rattle.report_text.specs.declared.item.Cause.TheVariants.{WrongKind, Undeclared, TooManyFacts}
use Rattle.report_text.specs.declared.item.Cause.TheVariants.{Contradiction, Closed, NameTwice}
use Rattle.report_text.specs.declared.item.Cause.TheVariants.{TooMany, TooLarge}
use Rattle.consistency.specs.Least.{IsLeastClash, IsConsistentUnder}
use Rattle.monitor_core.specs.Setting.{Setting}
use Rattle.watch_report.specs.Task.{ontology_after}

pub data Outcome : Type 0 where
  skip : Outcome
  refused : (cause : Cause) → Outcome
  declares : (name : List ℕ) → Outcome
  accepted : (snapshot : List Fact) → Outcome

-- the cause as a report tells it
abbrev pub cause_of : SaidCause → Cause
cause_of is_malformed = Malformed
cause_of (unknown name) = Unknown name
cause_of (wrong_kind name) = WrongKind name
cause_of (undeclared name) = Undeclared name
cause_of too_many_facts = TooManyFacts

-- a snapshot is refused for the least clash that it meets, or accepted where it is consistent
abbrev pub SnapshotHas : Declared → List Fact → Outcome → Type 0
SnapshotHas ontology snapshot skip = ⊥
SnapshotHas ontology snapshot (refused (Contradiction number)) =
    IsLeastClash ontology snapshot number
SnapshotHas ontology snapshot (refused _) = ⊥
SnapshotHas ontology snapshot (declares name) = ⊥
SnapshotHas ontology snapshot (accepted taken) =
    (taken ≡ snapshot) × IsConsistentUnder ontology snapshot

-- why a name is refused, as a report tells it
abbrev pub cause_of_name : List ℕ → NameFault → Cause
cause_of_name name IsClosed = Closed
cause_of_name name IsTwice = NameTwice name
cause_of_name name AreTooMany = TooMany
cause_of_name name (IsTooLarge total) = TooLarge total

-- the name is refused for what is at fault with it, or declared where nothing is
abbrev pub name_comes_to : List ℕ → Option NameFault → Outcome
name_comes_to name None = declares name
name_comes_to name (Some fault) = refused (cause_of_name name fault)

-- what is said comes to this by the names of the setting, to which none may be added once it is
-- closed
abbrev pub SaidComesTo : Setting → Bool → Said → Outcome → Type 0
SaidComesTo setting closed nothing outcome = outcome ≡ skip
SaidComesTo setting closed (is_refused cause) outcome = outcome ≡ refused (cause_of cause)
SaidComesTo setting closed (names name) outcome =
    outcome ≡ name_comes_to name (fault_of_name setting.ontology setting.queries closed name)
SaidComesTo setting closed (says snapshot) outcome = SnapshotHas setting.ontology snapshot outcome

-- so does the line, in this form
abbrev pub ComesTo : Setting → Bool → StreamForm → StreamLine → Outcome → Type 0
ComesTo setting closed form too_long outcome = outcome ≡ refused TooLong
ComesTo setting closed form (text line) outcome =
    SaidComesTo setting closed (said setting.ontology form line) outcome

-- what is known after the history
abbrev pub setting_after : Setting → History → Setting
setting_after setting history = record {
  ontology = ontology_after setting history;
  queries = setting.queries;
}

-- what is said comes to this after the history
abbrev pub SaidHas : Setting → History → Said → Outcome → Type 0
SaidHas setting history what outcome =
    SaidComesTo (setting_after setting history) history.is_closed what outcome

-- the line, in this form, has this outcome after the history: it is read by the names of the
-- ontology and of the history
abbrev pub HasOutcome : Setting → History → StreamForm → StreamLine → Outcome → Type 0
HasOutcome setting history form line outcome =
    ComesTo (setting_after setting history) history.is_closed form line outcome
