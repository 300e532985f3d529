-- What a line says of a model: its facts are those of a world that somebody claims, in which a name
-- that is declared as nothing names a further element.
use Rattle.std.specs.Prelude.{ℕ, ◌+◌, Bool, false, ◌||◌, if◌then◌else◌, List, [], ◌∷◌, ◌++◌}
use Rattle.std.specs.Prelude.{codes, length, fold, find, position, Option, Some, None}
use Rattle.std.specs.Option.{option_map, option_map_or, option_or}
use Rattle.std.specs.List.{list_any, filter_map, flat_map}
use Rattle.std.specs.Str.{bytes_eq}
use Rattle.text_scan.specs.declared.TokenKind.TheVariants.{Name}
use Rattle.text_scan.specs.Lexing.{lexed}
use Rattle.dl_syntax.specs.declared.names.Kind.TheVariants.{Concept, Role}
use Rattle.dl_syntax.specs.declared.facts.Element.{Element}
use Rattle.dl_syntax.specs.declared.facts.Element.TheVariants.{Ind}
use Rattle.dl_syntax.specs.declared.facts.Fact.{Fact}
use Rattle.dl_syntax.specs.declared.facts.Fact.TheVariants as fact
use Rattle.dl_syntax.specs.Ontology.{Declared, number_of, is_declared}
use Rattle.snapshot_reader.specs.Written.{Written, unary, binary, arguments, Symbol, token, symbols}
use Rattle.snapshot_reader.specs.Written.{facts_written, ◌>>=◌}
use Rattle.snapshot_reader.specs.Said.{Cause, is_malformed, first_cause, is_name_of, individual_of}
use Rattle.snapshot_reader.specs.Said.{first_unknown, first_misused, distinct, Said, refused, says}

-- ---- which lines are model lines

-- whether the first of the tokens is this word
abbrev pub begins_with : List ℕ → List Symbol → Bool
begins_with word (token Name first ∷ rest) = bytes_eq first word
begins_with word _ = false

-- whether the line's first token is the word `model`
unfoldable pub is_model_line : List ℕ → Bool
is_model_line line = begins_with (codes "model") (symbols (lexed 0 0 line))

-- the tokens behind the first one
abbrev pub behind_first : List Symbol → List Symbol
behind_first [] = []
behind_first (first ∷ rest) = rest

-- the facts that the line writes behind the word `model`, if it is such a line
unfoldable pub model_writes : List ℕ → Option (List Written)
model_writes line =
    if is_model_line line then facts_written (behind_first (symbols (lexed 0 0 line))) else None

-- ---- what its names stand for

-- the names with one more, unless it is declared, or there already
abbrev pub with_further : Declared → List (List ℕ) → List ℕ → List (List ℕ)
with_further o names name =
    if is_declared o name || list_any (bytes_eq name) names then names else names ++ name ∷ []

-- the names of the further elements in the order of their first places
unfoldable pub further_names : Declared → List Written → List (List ℕ)
further_names o facts = fold (with_further o) [] (flat_map arguments facts)

-- further elements are numbered from the count of individuals on
abbrev pub further_element : Declared → ℕ → Element
further_element o place = Ind (record { 0 = length o.individuals + place })

-- the element that an argument names where further elements have these names
abbrev pub element_of : Declared → List (List ℕ) → List ℕ → Option Element
element_of o further name =
    option_or (individual_of o name)
    (option_map (further_element o) (position (bytes_eq name) further))

-- the fact by its numbers, if its predicate is declared so and its arguments name elements
abbrev pub model_fact : Declared → List (List ℕ) → Written → Option Fact
model_fact o further (unary p a) = do
  concept ← number_of Concept o p
  x ← element_of o further a
  Some (fact.Concept (record { 0 = concept }) x)
model_fact o further (binary p a b) = do
  role ← number_of Role o p
  x ← element_of o further a
  y ← element_of o further b
  Some (fact.Role (record { 0 = role }) x y)

-- ---- what is said

-- a name that is declared as a concept or as a role names no element
abbrev pub names_no_element : Declared → List ℕ → Bool
names_no_element o name = is_name_of Concept o name || is_name_of Role o name

abbrev pub first_misplaced : Declared → List Written → Option (List ℕ)
first_misplaced o facts = find (names_no_element o) (flat_map arguments facts)

-- the cause that a model line of these facts is refused for
abbrev pub model_cause : Declared → List Written → Option Cause
model_cause o facts = first_cause (first_unknown o facts) (first_misused o facts)
    (first_misplaced o facts) (length facts)

-- the facts by their numbers, a repeated one in its first place only
abbrev pub numbered_facts : Declared → List Written → List Fact
numbered_facts o facts = distinct (filter_map (model_fact o (further_names o facts)) facts)

-- the facts of the model, or why there are none
unfoldable pub facts_say_model : Declared → List Written → Said
facts_say_model o facts =
    option_map_or refused (model_cause o facts) (says (numbered_facts o facts))

-- what the line says as a model line
unfoldable pub model_said : Declared → List ℕ → Said
model_said o line =
    option_map_or (facts_say_model o) (model_writes line) (refused is_malformed)
