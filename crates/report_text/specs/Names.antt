-- The names that a report tells, and the numbers that stand for them.
use Rattle.std.specs.Prelude.{ℕ, ◌<◌, List, [], ◌∷◌, ◌++◌, flat_map, length, slice_index_or}
use Rattle.std.specs.Prelude.{slice_get, Some, None}
use Rattle.std.specs.List.{All}
use Rattle.std.specs.declared.option.Option.{Option}
use Rattle.dl_syntax.specs.declared.names.IndId.{IndId}
use Rattle.dl_syntax.specs.Names.{IsName}
use Rattle.dl_syntax.specs.Ontology.{Declared}
use Rattle.tcq_syntax.specs.Tcq.{Tcq}
use Rattle.report_text.specs.declared.item.Cause.{Cause}
use Rattle.report_text.specs.declared.item.Cause.TheVariants.{TooLong, Malformed, Unknown}
use Rattle.report_text.specs.declared.item.Cause.TheVariants.{WrongKind, Undeclared, TooManyFacts}
use Rattle.report_text.specs.declared.item.Cause.TheVariants.{Contradiction, Closed, NameTwice}
use Rattle.report_text.specs.declared.item.Cause.TheVariants.{TooMany, TooLarge}
use Rattle.report_text.specs.declared.item.Item.{Item}
use Rattle.report_text.specs.declared.item.Item.TheVariants.{Accepted, Answer, Kept}
use Rattle.report_text.specs.declared.item.Item.TheVariants.{Refused, End, Declared as Arrived}

abbrev pub Text : Type 0
Text = List ℕ

-- the name with this number, where there is one
abbrev pub name_text : List Text → ℕ → Text
name_text names number = slice_index_or names number []

-- the texts of the elements, with the separator before each but the first
abbrev pub separated : {X : Type 0} → Text → (X → Text) → List X → Text
separated separator text_of [] = []
separated separator text_of (first ∷ rest) =
    text_of first ++ flat_map (λ x. separator ++ text_of x) rest

abbrev pub name_of_query : Option Tcq → Text
name_of_query None = []
name_of_query (Some query) = query.name

-- the name of the query with this place
abbrev pub query_name : List Tcq → ℕ → Text
query_name queries place = name_of_query (slice_get queries place)

-- each individual of the row has a name
abbrev pub IsNamed : Declared → List IndId → Type 0
IsNamed ontology row = All (λ i. i.0 < length ontology.individuals) row

abbrev pub AreNamed : Declared → List (List IndId) → Type 0
AreNamed ontology rows = All (IsNamed ontology) rows

-- the numbers of names and queries that the item has exist
abbrev pub HasNames : Declared → List Tcq → Item → Type 0
HasNames ontology queries (Accepted line number) = Unit {0}
HasNames ontology queries (Answer line number query row) =
    (query < length queries) × IsNamed ontology row
HasNames ontology queries (Kept line query size) = query < length queries
HasNames ontology queries (Arrived line name) = Unit {0}
HasNames ontology queries (Refused line cause) = Unit {0}
HasNames ontology queries (End accepted refused) = Unit {0}

-- the name of each query is spelled as a name
abbrev pub AreSpelled : List Tcq → Type 0
AreSpelled queries = All (λ query. IsName query.name) queries

-- the names of individuals are, as those of an ontology always are
abbrev pub AreIndividualsSpelled : Declared → Type 0
AreIndividualsSpelled ontology = All IsName ontology.individuals

-- the name that the cause has is spelled as a name
abbrev pub IsSpelledCause : Cause → Type 0
IsSpelledCause TooLong = Unit {0}
IsSpelledCause Malformed = Unit {0}
IsSpelledCause (Unknown name) = IsName name
IsSpelledCause (WrongKind name) = IsName name
IsSpelledCause (Undeclared name) = IsName name
IsSpelledCause TooManyFacts = Unit {0}
IsSpelledCause (Contradiction clash) = Unit {0}
IsSpelledCause Closed = Unit {0}
IsSpelledCause (NameTwice name) = IsName name
IsSpelledCause TooMany = Unit {0}
IsSpelledCause (TooLarge total) = Unit {0}

abbrev pub IsSpelledItem : Item → Type 0
IsSpelledItem (Accepted line number) = Unit {0}
IsSpelledItem (Answer line number query row) = Unit {0}
IsSpelledItem (Kept line query size) = Unit {0}
IsSpelledItem (Arrived line name) = IsName name
IsSpelledItem (Refused line cause) = IsSpelledCause cause
IsSpelledItem (End accepted refused) = Unit {0}
