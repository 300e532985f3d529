-- The first fault of a query file that is well formed.
use Rattle.std.specs.Prelude.{ℕ, nat_le, nat_lt, Bool, ◌||◌, if◌then◌else◌, List, [], ◌∷◌, ◌++◌}
use Rattle.std.specs.Prelude.{length, Option, Some, None, is_some}
use Rattle.std.specs.List.{list_any}
use Rattle.std.specs.Str.{bytes_eq}
use Rattle.dl_syntax.specs.declared.names.Kind.{Kind}
use Rattle.dl_syntax.specs.declared.names.Kind.TheVariants.{Concept, Role}
use Rattle.dl_syntax.specs.Ontology.{Declared}
use Rattle.tcq_syntax.specs.Tcq.{Tcq}
use Rattle.tcq_syntax.specs.Sizes.{futures, units, most_units}
use Rattle.tcq_grammar.specs.Symbols.{Symbol}
use Rattle.tcq_grammar.specs.Symbols as s
use Rattle.tcq_grammar.specs.Texts.{Mark}
use Rattle.tcq_grammar.specs.Grammar as g
use Rattle.tcq_grammar.specs.Machine.{Head, Stack, State, AfterQuery, InVariables, Have, InLeaf}
use Rattle.tcq_grammar.specs.Machine.{WantAtom, WantFirst, WantSecond, disjunction_of, step}
use Rattle.tcq_reader.specs.declared.faults.QueryKind.{QueryKind}
use Rattle.tcq_reader.specs.declared.faults.QueryKind.TheVariants.{NameTwice, TooMany, TooLarge}
use Rattle.tcq_reader.specs.Leaves.{known_as, term_verdict, predicate_verdict}
use Rattle.tcq_reader.specs.Meaning.{query_said, queries_said}

-- a query's name behind these queries
abbrev pub name_verdict : List Tcq → List ℕ → Option QueryKind
name_verdict queries text =
    if nat_le 16 (length queries) then Some TooMany
    else if list_any (λ q. bytes_eq q.name text) queries then Some NameTwice
    else None

-- a variable in an answer list behind these
abbrev pub variable_verdict : List (List ℕ) → List ℕ → Option QueryKind
variable_verdict variables text =
    if nat_le 4 (length variables) then Some TooMany
    else if is_some (known_as variables text) then Some NameTwice
    else None

abbrev pub has_too_many_nodes : Tcq → Bool
has_too_many_nodes q = nat_lt 64 (length q.nodes) || nat_lt 8 (futures q.nodes)

-- the units of these queries and one more, over so many individuals
abbrev pub units_verdict : ℕ → List Tcq → Tcq → Option QueryKind
units_verdict individuals queries q =
    if nat_lt most_units (units individuals (queries ++ q ∷ [])) then Some
    (TooLarge (units individuals (queries ++ q ∷ []))) else None

-- the end of a query behind these queries, over so many individuals
abbrev pub end_verdict : ℕ → List Tcq → Tcq → Option QueryKind
end_verdict individuals queries q =
    if has_too_many_nodes q then Some TooMany else units_verdict individuals queries q

-- an atom is of a role where a comma stands behind its first term
abbrev pub kind_behind : Symbol → Kind
kind_behind s.Comma = Role
kind_behind _ = Concept

-- the kind of an atom by what stands behind its predicate
abbrev pub kind_ahead : List Mark → Kind
kind_ahead (bracket ∷ first ∷ next ∷ rest) = kind_behind next.symbol
kind_ahead _ = Concept

abbrev pub name_fault : Declared → g.File → Symbol → Option QueryKind
name_fault o front (s.Name text) = name_verdict (queries_said o front) text
name_fault o front _ = None

abbrev pub variable_fault : List (List ℕ) → Symbol → Option QueryKind
variable_fault variables (s.Var text) = variable_verdict variables text
variable_fault variables _ = None

abbrev pub predicate_fault : Declared → ℕ → Symbol → List Mark → Option QueryKind
predicate_fault o before (s.Name text) rest = predicate_verdict o before (kind_ahead rest) text
predicate_fault o before _ rest = None

abbrev pub term_fault : Declared → Symbol → Option QueryKind
term_fault o (s.Name text) = term_verdict o (g.Ind text)
term_fault o _ = None

abbrev pub whole_fault : Declared → Head → g.Tree → Option Stack → Option QueryKind
whole_fault o head tree None =
    end_verdict (length o.individuals) (queries_said o head.front)
    (query_said o head.name head.variables tree)
whole_fault o head tree (Some stack) = None

abbrev pub end_fault : Declared → Head → Option Stack → g.Tree → Symbol → Option QueryKind
end_fault o head outer tree s.Semi = whole_fault o head tree outer
end_fault o head outer tree _ = None

-- what is wrong with a symbol behind what led to the state, and before the rest
abbrev pub fault_at : Declared → State → Symbol → List Mark → Option QueryKind
fault_at o (AfterQuery front) symbol rest = name_fault o front symbol
fault_at o (InVariables head) symbol rest = variable_fault head.variables symbol
fault_at o (InLeaf head stack (WantAtom front)) symbol rest =
    predicate_fault o (length front) symbol rest
fault_at o (InLeaf head stack (WantFirst front predicate)) symbol rest = term_fault o symbol
fault_at o (InLeaf head stack (WantSecond front predicate first)) symbol rest = term_fault o symbol
fault_at o (Have head outer level tree) symbol rest =
    end_fault o head outer (disjunction_of level tree) symbol
fault_at o _ symbol rest = None

abbrev pub fault_or : Option QueryKind → ℕ → Option (ℕ × QueryKind) → Option (ℕ × QueryKind)
fault_or (Some kind) place later = Some (place, kind)
fault_or None place later = later

-- the first of the symbols with which something is wrong, by its place, and what
unfoldable pub first_fault : Declared → Option State → List Mark → Option (ℕ × QueryKind)
first_fault o state [] = None
first_fault o None (m ∷ rest) = None
first_fault o (Some state) (m ∷ rest) =
    fault_or (fault_at o state m.symbol rest) m.start (first_fault o (step state m.symbol) rest)
