-- What a report tells of an event, as items and as bytes.
use Rattle.std.specs.Prelude.{◌≡◌, ℕ, ◌+◌, List, [], ◌∷◌, ◌++◌, flat_map, length, map, Some, None}
use Rattle.std.specs.List.{All}
use Rattle.std.specs.declared.option.Option.{Option}
use Rattle.dl_syntax.specs.declared.names.IndId.{IndId}
use Rattle.dl_syntax.specs.Names.{IsName}
use Rattle.dl_syntax.specs.Ontology.{Declared}
use Rattle.dl_syntax.specs.Rows.{Relation}
use Rattle.tcq_syntax.specs.Tcq.{Tcq}
use Rattle.report_text.specs.declared.item.Item.{Item}
use Rattle.report_text.specs.declared.item.Item.TheVariants as item
use Rattle.report_text.specs.declared.event.Event.{Event}
use Rattle.report_text.specs.declared.event.Event.TheVariants.{Accepted, Refused, End}
use Rattle.report_text.specs.declared.event.Event.TheVariants.{Declared as Arrived}
use Rattle.forms.specs.declared.ReportForm.{ReportForm}
use Rattle.forms.specs.declared.ReportForm.TheVariants as form
use Rattle.report_text.specs.Names.{Text, AreNamed, AreSpelled, IsSpelledCause}
use Rattle.report_text.specs.Lines.{heading_text, line_in}
use Rattle.report_text.specs.Objects.{size_at, object_text}

-- the rows that answer the query with this place
abbrev pub answer_items : ℕ → ℕ → ℕ → List (List IndId) → List Item
answer_items line number place rows = map (λ row. item.Answer line number place row) rows

-- how much the query with this place keeps, where that is told
abbrev pub kept_items : ℕ → ℕ → Option ℕ → List Item
kept_items line place None = []
kept_items line place (Some size) = item.Kept line place size ∷ []

-- for each of these queries in their order, of which the first has this place: its answers, and
-- then how much it keeps
abbrev pub query_items : ℕ → ℕ → Option (List ℕ) → ℕ → List Relation → List Item
query_items line number kept place [] = []
query_items line number kept place (relation ∷ later) =
    answer_items line number place relation.rows
    ++ (kept_items line place (size_at kept place)
    ++ query_items line number kept (place + 1) later)

-- the items of an event in their order
abbrev pub items_of : Event → List Item
items_of (Accepted line number answers kept) =
    item.Accepted line number ∷ query_items line number kept 0 answers
items_of (Arrived line name) = item.Declared line name ∷ []
items_of (Refused line cause) = item.Refused line cause ∷ []
items_of (End accepted refused) = item.End accepted refused ∷ []

-- the bytes of an event: a line for each item, or one object
abbrev pub event_text : ReportForm → Declared → List Tcq → Event → Text
event_text (form.Lines lines) ontology queries event =
    flat_map (line_in lines ontology queries) (items_of event)
event_text form.Objects ontology queries event = object_text ontology queries event

-- what stands before the first event
abbrev pub report_heading_text : ReportForm → Text
report_heading_text (form.Lines lines) = heading_text lines
report_heading_text form.Objects = []

-- where sizes are told, there is one for each query
abbrev pub HasSizes : List Tcq → Option (List ℕ) → Type 0
HasSizes queries None = Unit {0}
HasSizes queries (Some sizes) = length sizes ≡ length queries

-- there are answers for each query, over individuals that have names, and sizes for each where they
-- are told
pub record AreAnswered (ontology : Declared) (queries : List Tcq) (kept : Option (List ℕ))
    (answers : List Relation) : Type 0 where
  pub one_each : length answers ≡ length queries
  pub sizes : HasSizes queries kept
  pub named : All (λ relation. AreNamed ontology relation.rows) answers

abbrev pub HasAnswers : Declared → List Tcq → Event → Type 0
HasAnswers ontology queries (Accepted line number answers kept) =
    AreAnswered ontology queries kept answers
HasAnswers ontology queries (Arrived line name) = Unit {0}
HasAnswers ontology queries (Refused line cause) = Unit {0}
HasAnswers ontology queries (End accepted refused) = Unit {0}

abbrev pub IsSpelledEvent : Event → Type 0
IsSpelledEvent (Accepted line number answers kept) = Unit {0}
IsSpelledEvent (Arrived line name) = IsName name
IsSpelledEvent (Refused line cause) = IsSpelledCause cause
IsSpelledEvent (End accepted refused) = Unit {0}

-- each query has its answers, what they name exists, and the names of the queries, of a cause and
-- of what is declared are spelled as names
pub record EventHasNames (ontology : Declared) (queries : List Tcq) (event : Event) : Type 0 where
  pub answers : HasAnswers ontology queries event
  pub queries_spelled : AreSpelled queries
  pub cause_spelled : IsSpelledEvent event
