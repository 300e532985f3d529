-- Facts of which there is one proof at most, so that a reporter may keep them.
use Rattle.std.proofs.Common.{ℕ, List, [], ◌∷◌, None, Some}
use Rattle.std.specs.declared.option.Option.{Option}
use Rattle.std.proofs.Props as std
use Rattle.dl_syntax.specs.Names.{IsName}
use Rattle.dl_syntax.specs.Ontology.{Declared}
use Rattle.dl_syntax.specs.Rows.{Relation}
use Rattle.tcq_syntax.specs.Tcq.{Tcq}
use Rattle.report_text.specs.declared.item.Cause.{Cause}
use Rattle.report_text.specs.declared.item.Cause.TheVariants.{TooLong, Malformed, Unknown}
use Rattle.report_text.specs.declared.item.Cause.TheVariants.{WrongKind, Undeclared, TooManyFacts}
use Rattle.report_text.specs.declared.item.Cause.TheVariants.{Contradiction, Closed, NameTwice}
use Rattle.report_text.specs.declared.item.Cause.TheVariants.{TooMany, TooLarge}
use Rattle.report_text.specs.declared.event.Event.{Event}
use Rattle.report_text.specs.declared.event.Event.TheVariants.{Accepted, Refused, End}
use Rattle.report_text.specs.declared.event.Event.TheVariants.{Declared as Arrived}
use Rattle.report_text.specs.Events.{HasSizes, AreAnswered, HasAnswers, IsSpelledEvent}
use Rattle.report_text.specs.Events.{EventHasNames}
use Rattle.report_text.specs.Names.{IsSpelledCause}
use Rattle.monitor_core.specs.Setting.{Setting}
use Rattle.watch_report.specs.Replies.{HasNamesOf}

pub IsName-prop : (text : List ℕ) → IsProp (IsName text)
IsName-prop [] = Prim.hlevel std.props
IsName-prop (first ∷ rest) = Prim.hlevel std.props

HasSizes-prop : (queries : List Tcq) (kept : Option (List ℕ)) → IsProp (HasSizes queries kept)
HasSizes-prop queries None = Prim.hlevel std.props
HasSizes-prop queries (Some sizes) = Prim.hlevel std.props

IsSpelledCause-prop : (cause : Cause) → IsProp (IsSpelledCause cause)
IsSpelledCause-prop TooLong = Prim.hlevel std.props
IsSpelledCause-prop Malformed = Prim.hlevel std.props
IsSpelledCause-prop (Unknown name) = IsName-prop name
IsSpelledCause-prop (WrongKind name) = IsName-prop name
IsSpelledCause-prop (Undeclared name) = IsName-prop name
IsSpelledCause-prop TooManyFacts = Prim.hlevel std.props
IsSpelledCause-prop (Contradiction number) = Prim.hlevel std.props
IsSpelledCause-prop Closed = Prim.hlevel std.props
IsSpelledCause-prop (NameTwice name) = IsName-prop name
IsSpelledCause-prop TooMany = Prim.hlevel std.props
IsSpelledCause-prop (TooLarge total) = Prim.hlevel std.props

ruleset parts = (std.props, IsName-prop, HasSizes-prop, IsSpelledCause-prop)

AreAnswered-prop : (ontology : Declared) (queries : List Tcq) (kept : Option (List ℕ))
    (answers : List Relation) → IsProp (AreAnswered ontology queries kept answers)
AreAnswered-prop ontology queries kept answers = Prim.hlevel parts

HasAnswers-prop : (ontology : Declared) (queries : List Tcq) (event : Event)
    → IsProp (HasAnswers ontology queries event)
HasAnswers-prop ontology queries (Accepted line number answers kept) =
    AreAnswered-prop ontology queries kept answers
HasAnswers-prop ontology queries (Arrived line name) = Prim.hlevel std.props
HasAnswers-prop ontology queries (Refused line cause) = Prim.hlevel std.props
HasAnswers-prop ontology queries (End accepted refused) = Prim.hlevel std.props

IsSpelledEvent-prop : (event : Event) → IsProp (IsSpelledEvent event)
IsSpelledEvent-prop (Accepted line number answers kept) = Prim.hlevel std.props
IsSpelledEvent-prop (Arrived line name) = IsName-prop name
IsSpelledEvent-prop (Refused line cause) = IsSpelledCause-prop cause
IsSpelledEvent-prop (End accepted refused) = Prim.hlevel std.props

ruleset event_parts = (parts, HasAnswers-prop, IsSpelledEvent-prop)

EventHasNames-prop : (ontology : Declared) (queries : List Tcq) (event : Event)
    → IsProp (EventHasNames ontology queries event)
EventHasNames-prop ontology queries event = Prim.hlevel event_parts

pub HasNamesOf-prop : (setting : Setting) (told : Option Event) → IsProp (HasNamesOf setting told)
HasNamesOf-prop setting None = Prim.hlevel std.props
HasNamesOf-prop setting (Some told) = EventHasNames-prop setting.ontology setting.queries told

-- the set for a field's `by`
pub ruleset facts = (std.props, IsName-prop, HasNamesOf-prop)
