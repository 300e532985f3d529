-- The lines of a report in text form, and in each form of lines.
use Rattle.std.specs.Prelude.{ℕ, List, [], ◌∷◌, ◌++◌, codes, decimal, flat_map, slice_index_or}
use Rattle.std.specs.Prelude.{Some, None}
use Rattle.std.specs.declared.option.Option.{Option}
use Rattle.dl_syntax.specs.declared.names.IndId.{IndId}
use Rattle.dl_syntax.specs.Ontology.{Declared}
use Rattle.tcq_syntax.specs.Tcq.{Tcq}
use Rattle.report_text.specs.declared.item.Cause.{Cause}
use Rattle.report_text.specs.declared.item.Cause.TheVariants.{TooLong, Malformed, Unknown}
use Rattle.report_text.specs.declared.item.Cause.TheVariants.{WrongKind, Undeclared, TooManyFacts}
use Rattle.report_text.specs.declared.item.Cause.TheVariants.{Contradiction, Closed, NameTwice}
use Rattle.report_text.specs.declared.item.Cause.TheVariants.{TooMany, TooLarge}
use Rattle.report_text.specs.declared.item.Item.{Item}
use Rattle.report_text.specs.declared.item.Item.TheVariants.{Accepted, Answer, Kept}
use Rattle.report_text.specs.declared.item.Item.TheVariants.{Refused, End, Declared as Arrived}
use Rattle.forms.specs.declared.LineForm.{LineForm}
use Rattle.forms.specs.declared.LineForm.TheVariants as form
pub use Rattle.report_text.specs.Names.{Text, name_of_query, query_name, IsNamed, AreNamed}
pub use Rattle.report_text.specs.Names.{HasNames, AreSpelled, IsSpelledItem}
use Rattle.report_text.specs.Rows.{heading_row, item_row, accepted_row, answer_rows, kept_row}
use Rattle.report_text.specs.Rows.{declared_row, refused_row, end_row}

-- what stands before the first line
abbrev pub heading_text : LineForm → Text
heading_text form.Text = []
heading_text form.Csv = heading_row

abbrev pub cause_text : Cause → Text
cause_text TooLong = codes "too-long"
cause_text Malformed = codes "malformed"
cause_text (Unknown name) = codes "unknown " ++ name
cause_text (WrongKind name) = codes "wrong-kind " ++ name
cause_text (Undeclared name) = codes "undeclared " ++ name
cause_text TooManyFacts = codes "too-many-facts"
cause_text (Contradiction clash) = codes "contradiction " ++ decimal clash
cause_text Closed = codes "closed"
cause_text (NameTwice name) = codes "name-twice " ++ name
cause_text TooMany = codes "too-many"
cause_text (TooLarge total) = codes "too-large " ++ decimal total

-- the individuals' names, each after a space
abbrev pub row_text : List Text → List IndId → Text
row_text names row = flat_map (λ i. 32 ∷ slice_index_or names i.0 []) row

abbrev pub answer_text : List Text → Text → List IndId → Text
answer_text names query row = codes "answer " ++ query ++ row_text names row ++ codes "\n"

-- the answers of one query
abbrev pub answers_text : List Text → Text → List (List IndId) → Text
answers_text names query rows = flat_map (answer_text names query) rows

-- words, a number, words and a number
abbrev pub two_text : Text → ℕ → Text → ℕ → Text
two_text before first between second =
    before ++ decimal first ++ between ++ decimal second ++ codes "\n"

abbrev pub declared_text : ℕ → Text → Text
declared_text line name = codes "line " ++ decimal line ++ codes " declared " ++ name ++ codes "\n"

abbrev pub refused_text : ℕ → Cause → Text
refused_text line cause = codes "line " ++ decimal line ++ codes " refused " ++ cause_text cause
    ++ codes "\n"

-- how much a query keeps
abbrev pub kept_text : Text → ℕ → Text
kept_text query size = codes "kept " ++ query ++ codes " " ++ decimal size ++ codes "\n"

-- the line of an item
abbrev pub line_text : Declared → List Tcq → Item → Text
line_text ontology queries (Accepted line number) =
    two_text (codes "line ") line (codes " accepted ") number
line_text ontology queries (Answer line number query row) =
    answer_text ontology.individuals (query_name queries query) row
line_text ontology queries (Kept line query size) = kept_text (query_name queries query) size
line_text ontology queries (Arrived line name) = declared_text line name
line_text ontology queries (Refused line cause) = refused_text line cause
line_text ontology queries (End accepted refused) =
    two_text (codes "end accepted ") accepted (codes " refused ") refused

-- the line of an item in this form
abbrev pub line_in : LineForm → Declared → List Tcq → Item → Text
line_in form.Text ontology queries item = line_text ontology queries item
line_in form.Csv ontology queries item = item_row ontology queries item

-- a row tells the names of queries and causes without quotes, so they are spelled as names
abbrev pub IsSpelledIn : LineForm → List Tcq → Item → Type 0
IsSpelledIn form.Text queries item = Unit {0}
IsSpelledIn form.Csv queries item = AreSpelled queries × IsSpelledItem item

-- ---- the lines of each kind in this form

abbrev pub accepted_in : LineForm → ℕ → ℕ → Text
accepted_in form.Text line number = two_text (codes "line ") line (codes " accepted ") number
accepted_in form.Csv line number = accepted_row line number

abbrev pub answers_in : LineForm → List Text → ℕ → ℕ → Text → List (List IndId) → Text
answers_in form.Text names line number query rows = answers_text names query rows
answers_in form.Csv names line number query rows = answer_rows names line number query rows

-- the line that tells a size, where there is one
abbrev pub size_in : LineForm → ℕ → Text → Option ℕ → Text
size_in form.Text line query None = []
size_in form.Text line query (Some size) = kept_text query size
size_in form.Csv line query None = []
size_in form.Csv line query (Some size) = kept_row line size query

abbrev pub declared_in : LineForm → ℕ → Text → Text
declared_in form.Text line name = declared_text line name
declared_in form.Csv line name = declared_row line name

abbrev pub refused_in : LineForm → ℕ → Cause → Text
refused_in form.Text line cause = refused_text line cause
refused_in form.Csv line cause = refused_row line cause

abbrev pub end_in : LineForm → ℕ → ℕ → Text
end_in form.Text accepted refused =
    two_text (codes "end accepted ") accepted (codes " refused ") refused
end_in form.Csv accepted refused = end_row accepted refused
