-- The rows of a report in CSV form. A row is what the csv library's default writer writes for its
-- fields.
use Rattle.std.specs.Prelude.{ℕ, ◌<◌, ◌^◌, List, [], ◌∷◌, ◌++◌, codes, decimal, flat_map}
use Rattle.csv.specs.Writing.{default_writer, row_text}
use Rattle.dl_syntax.specs.declared.names.IndId.{IndId}
use Rattle.dl_syntax.specs.Ontology.{Declared}
use Rattle.tcq_syntax.specs.Tcq.{Tcq}
use Rattle.report_text.specs.declared.item.Cause.{Cause}
use Rattle.report_text.specs.declared.item.Cause.TheVariants.{TooLong, Malformed, Unknown}
use Rattle.report_text.specs.declared.item.Cause.TheVariants.{WrongKind, Undeclared, TooManyFacts}
use Rattle.report_text.specs.declared.item.Cause.TheVariants.{Contradiction, Closed, NameTwice}
use Rattle.report_text.specs.declared.item.Cause.TheVariants.{TooMany, TooLarge}
use Rattle.report_text.specs.declared.item.Item.{Item}
use Rattle.report_text.specs.declared.item.Item.TheVariants.{Accepted, Answer, Kept}
use Rattle.report_text.specs.declared.item.Item.TheVariants.{Refused, End, Declared as Arrived}
use Rattle.report_text.specs.Names.{Text, name_text, separated, query_name}

-- the row of these fields, with its newline
unfoldable pub row : List Text → Text
row fields = row_text default_writer fields

-- the names of the columns
abbrev pub heading_row : Text
heading_row = row (codes "line" ∷ codes "event" ∷ codes "number" ∷ codes "name" ∷ codes "detail"
    ∷ [])

-- the word for a cause
abbrev pub cause_word : Cause → Text
cause_word TooLong = codes "too-long"
cause_word Malformed = codes "malformed"
cause_word (Unknown name) = codes "unknown"
cause_word (WrongKind name) = codes "wrong-kind"
cause_word (Undeclared name) = codes "undeclared"
cause_word TooManyFacts = codes "too-many-facts"
cause_word (Contradiction clash) = codes "contradiction"
cause_word Closed = codes "closed"
cause_word (NameTwice name) = codes "name-twice"
cause_word TooMany = codes "too-many"
cause_word (TooLarge total) = codes "too-large"

-- the number of the clash that is met, or that of the units, where that is the cause
abbrev pub cause_number : Cause → Text
cause_number (Contradiction clash) = decimal clash
cause_number (TooLarge total) = decimal total
cause_number _ = []

-- the name that the cause has, where it has one
abbrev pub cause_name : Cause → Text
cause_name (Unknown name) = name
cause_name (WrongKind name) = name
cause_name (Undeclared name) = name
cause_name (NameTwice name) = name
cause_name _ = []

-- the names of a row's individuals, separated by one space
abbrev pub individuals_text : List Text → List IndId → Text
individuals_text names individuals = separated (codes " ") (λ i. name_text names i.0) individuals

abbrev pub accepted_row : ℕ → ℕ → Text
accepted_row line number = row (decimal line ∷ codes "accepted" ∷ decimal number ∷ [] ∷ [] ∷ [])

abbrev pub answer_row : List Text → ℕ → ℕ → Text → List IndId → Text
answer_row names line number query individuals =
    row (decimal line ∷ codes "answer" ∷ decimal number ∷ query ∷ individuals_text names individuals
    ∷ [])

-- a row for each answer of one query
abbrev pub answer_rows : List Text → ℕ → ℕ → Text → List (List IndId) → Text
answer_rows names line number query rows = flat_map (answer_row names line number query) rows

abbrev pub kept_row : ℕ → ℕ → Text → Text
kept_row line size query = row (decimal line ∷ codes "kept" ∷ decimal size ∷ query ∷ [] ∷ [])

abbrev pub declared_row : ℕ → Text → Text
declared_row line name = row (decimal line ∷ codes "declared" ∷ [] ∷ name ∷ [] ∷ [])

abbrev pub refused_row : ℕ → Cause → Text
refused_row line cause = row (decimal line ∷ codes "refused" ∷ cause_number cause ∷ cause_word cause
    ∷ cause_name cause ∷ [])

abbrev pub end_row : ℕ → ℕ → Text
end_row accepted refused = row ([] ∷ codes "end" ∷ decimal accepted ∷ [] ∷ decimal refused ∷ [])

-- the row of an item
abbrev pub item_row : Declared → List Tcq → Item → Text
item_row ontology queries (Accepted line number) = accepted_row line number
item_row ontology queries (Answer line number query individuals) =
    answer_row ontology.individuals line number (query_name queries query) individuals
item_row ontology queries (Kept line query size) = kept_row line size (query_name queries query)
item_row ontology queries (Arrived line name) = declared_row line name
item_row ontology queries (Refused line cause) = refused_row line cause
item_row ontology queries (End accepted refused) = end_row accepted refused

-- the fields that the answers of a query share, each with the comma after it, where none needs
-- quotes
abbrev pub answer_front : ℕ → ℕ → Text → Text
answer_front line number query = decimal line ++ codes ",answer," ++ decimal number ++ codes ","
    ++ query ++ codes ","

-- what follows them in the row of an answer
abbrev pub answer_detail : List Text → List IndId → Text
answer_detail names individuals = individuals_text names individuals ++ codes "\n"

-- the number of the clash fits 32 bits, and that of the units 128
abbrev pub HasSmallNumber : Cause → Type 0
HasSmallNumber (Contradiction clash) = clash < 2 ^ 32
HasSmallNumber (TooLarge total) = total < 2 ^ 128
HasSmallNumber _ = Unit {0}
