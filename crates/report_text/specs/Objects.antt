-- The lines of a report in JSON form: one object a line, with no space, its keys in the order of
-- their bytes. The text of a value is what the serde_json library writes for it.
use Rattle.std.specs.Prelude.{◌≡◌, ℕ, ◌+◌, List, [], ◌∷◌, ◌++◌, codes, decimal, map, slice_get}
use Rattle.std.specs.Prelude.{true, Some, None}
use Rattle.std.specs.declared.option.Option.{Option}
use Rattle.serde_json.specs.Data.{Data, array, boolean, member, no_members, number, object, string}
use Rattle.serde_json.specs.Data.{unsigned}
use Rattle.serde_json.specs.View.{items_of}
use Rattle.serde_json.specs.Written.{compact_text}
use Rattle.dl_syntax.specs.declared.names.IndId.{IndId}
use Rattle.dl_syntax.specs.Ontology.{Declared}
use Rattle.dl_syntax.specs.Rows.{Relation}
use Rattle.tcq_syntax.specs.Tcq.{Tcq}
use Rattle.report_text.specs.declared.item.Cause.{Cause}
use Rattle.report_text.specs.declared.item.Cause.TheVariants.{TooLong, Malformed, Unknown}
use Rattle.report_text.specs.declared.item.Cause.TheVariants.{WrongKind, Undeclared, TooManyFacts}
use Rattle.report_text.specs.declared.item.Cause.TheVariants.{Contradiction, Closed, NameTwice}
use Rattle.report_text.specs.declared.item.Cause.TheVariants.{TooMany, TooLarge}
use Rattle.report_text.specs.declared.event.Event.{Event}
use Rattle.report_text.specs.declared.event.Event.TheVariants.{Accepted, Refused, End}
use Rattle.report_text.specs.declared.event.Event.TheVariants.{Declared as Arrived}
use Rattle.report_text.specs.Names.{Text, name_text, query_name}
use Rattle.report_text.specs.Rows.{cause_word}

-- a number of a report
abbrev pub count_data : ℕ → Data
count_data count = number (unsigned count)

-- the name of an individual
unfoldable pub name_data : List Text → IndId → Data
name_data names i = string (name_text names i.0)

-- a row as the list of its individuals' names
unfoldable pub tuple_data : List Text → List IndId → Data
tuple_data names row = array (items_of (map (name_data names) row))

unfoldable pub tuples_data : List Text → List (List IndId) → Data
tuples_data names rows = array (items_of (map (tuple_data names) rows))

-- a query's name and its tuples, and before them how much it keeps, where that is told
abbrev pub query_with : Text → Option ℕ → Data → Data
query_with query None tuples =
    object (member (codes "query") (string query) (member (codes "tuples") tuples no_members))
query_with query (Some size) tuples =
    object (member (codes "kept") (count_data size)
    (member (codes "query") (string query) (member (codes "tuples") tuples no_members)))

-- the answers of one query
unfoldable pub query_data : List Text → Text → Option ℕ → List (List IndId) → Data
query_data names query size rows = query_with query size (tuples_data names rows)

-- the size of the query with this place, where sizes are told
abbrev pub size_at : Option (List ℕ) → ℕ → Option ℕ
size_at None place = None
size_at (Some sizes) place = slice_get sizes place

-- the answers of the queries in their order, of which the first has this place
abbrev pub queries_data : List Text → List Tcq → Option (List ℕ) → ℕ → List Relation → List Data
queries_data names queries kept place [] = []
queries_data names queries kept place (relation ∷ later) =
    query_data names (query_name queries place) (size_at kept place) relation.rows
    ∷ queries_data names queries kept (place + 1) later

unfoldable pub answers_data : List Text → List Tcq → Option (List ℕ) → List Relation → Data
answers_data names queries kept answers =
    array (items_of (queries_data names queries kept 0 answers))

unfoldable pub accepted_data : ℕ → ℕ → Data → Data
accepted_data line accepted answers =
    object (member (codes "accepted") (count_data accepted)
    (member (codes "answers") answers (member (codes "line") (count_data line) no_members)))

-- a refusal for a cause that is its word alone
abbrev pub plain_data : ℕ → Text → Data
plain_data line word =
    object (member (codes "line") (count_data line)
    (member (codes "refused") (string word) no_members))

-- a refusal for a cause with a name
abbrev pub named_data : ℕ → Text → Text → Data
named_data line name word =
    object (member (codes "line") (count_data line)
    (member (codes "name") (string name) (member (codes "refused") (string word) no_members)))

-- a refusal for a clash
abbrev pub clash_data : ℕ → ℕ → Text → Data
clash_data line clash word =
    object (member (codes "clash") (count_data clash)
    (member (codes "line") (count_data line) (member (codes "refused") (string word) no_members)))

-- a refusal for so many units, whose digits are a text
abbrev pub large_data : ℕ → ℕ → Text → Data
large_data line total word =
    object (member (codes "line") (count_data line)
    (member (codes "refused") (string word)
    (member (codes "units") (string (decimal total)) no_members)))

unfoldable pub refused_data : ℕ → Cause → Data
refused_data line TooLong = plain_data line (cause_word TooLong)
refused_data line Malformed = plain_data line (cause_word Malformed)
refused_data line (Unknown name) = named_data line name (cause_word (Unknown name))
refused_data line (WrongKind name) = named_data line name (cause_word (WrongKind name))
refused_data line (Undeclared name) = named_data line name (cause_word (Undeclared name))
refused_data line TooManyFacts = plain_data line (cause_word TooManyFacts)
refused_data line (Contradiction clash) = clash_data line clash (cause_word (Contradiction clash))
refused_data line Closed = plain_data line (cause_word Closed)
refused_data line (NameTwice name) = named_data line name (cause_word (NameTwice name))
refused_data line TooMany = plain_data line (cause_word TooMany)
refused_data line (TooLarge total) = large_data line total (cause_word (TooLarge total))

-- the name that a line declared
unfoldable pub declared_data : ℕ → Text → Data
declared_data line name =
    object (member (codes "declared") (string name)
    (member (codes "line") (count_data line) no_members))

unfoldable pub end_data : ℕ → ℕ → Data
end_data accepted refused =
    object (member (codes "accepted") (count_data accepted)
    (member (codes "end") (boolean true)
    (member (codes "refused") (count_data refused) no_members)))

-- the object of an event
abbrev pub event_data : Declared → List Tcq → Event → Data
event_data ontology queries (Accepted line accepted answers kept) =
    accepted_data line accepted (answers_data ontology.individuals queries kept answers)
event_data ontology queries (Arrived line name) = declared_data line name
event_data ontology queries (Refused line cause) = refused_data line cause
event_data ontology queries (End accepted refused) = end_data accepted refused

-- a value on a line of its own
unfoldable pub object_line : Data → Text
object_line value = compact_text value ++ codes "\n"

-- the line of an event
abbrev pub object_text : Declared → List Tcq → Event → Text
object_text ontology queries event = object_line (event_data ontology queries event)

-- the text of a value, as one word
unfoldable pub value_text : Data → Text
value_text value = compact_text value

-- the member that tells a size, where there is one, with the comma after it
abbrev pub size_text : Option ℕ → Text
size_text None = []
size_text (Some size) = codes "\"kept\":" ++ (decimal size ++ codes ",")

-- the library writes the text between quotes as it is
abbrev pub IsVerbatim : Text → Type 0
IsVerbatim text = compact_text (string text) ≡ codes "\"" ++ text ++ codes "\""
