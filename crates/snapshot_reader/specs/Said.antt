-- What a line says by the names of an ontology. Each cause is looked for over the whole line before
-- the next one.
use Rattle.std.specs.Prelude.{ℕ, Bool, false, ◌==◌, ◌&&◌, not, nat_lt, if◌then◌else◌, List}
use Rattle.std.specs.Prelude.{[], ◌∷◌, ◌++◌, length, map, fold, find, Option, Some, None}
use Rattle.std.specs.Prelude.{is_some}
use Rattle.std.specs.Option.{option_map, option_map_or, option_or}
use Rattle.std.specs.List.{list_any, filter_map, flat_map}
use Rattle.dl_syntax.specs.declared.names.Kind.{Kind}
use Rattle.dl_syntax.specs.declared.names.Kind.TheVariants.{Concept, Role, Individual}
use Rattle.dl_syntax.specs.declared.facts.Element.{Element}
use Rattle.dl_syntax.specs.declared.facts.Element.TheVariants.{Ind, Null}
use Rattle.dl_syntax.specs.declared.facts.Fact.{Fact}
use Rattle.dl_syntax.specs.declared.facts.Fact.TheVariants as fact
use Rattle.dl_syntax.specs.Ontology.{Declared, number_of, is_declared}
use Rattle.forms.specs.declared.StreamForm.{StreamForm}
use Rattle.snapshot_reader.specs.Written.{Written, unary, binary, predicate, arguments, Line, blank}
use Rattle.snapshot_reader.specs.Written.{malformed, declares, writes, line_writes}
pub use Rattle.snapshot_reader.specs.Written.{◌>>=◌}

abbrev pub is_name_of : Kind → Declared → List ℕ → Bool
is_name_of kind o text = is_some (number_of kind o text)

-- ---- what is refused

-- the cause that a line is refused for, with the name at the first place at fault
pub data Cause : Type 0 where
  is_malformed : Cause
  unknown : List ℕ → Cause
  wrong_kind : List ℕ → Cause
  undeclared : List ℕ → Cause
  too_many_facts : Cause

-- a concept has one argument, and a role has two
abbrev pub is_fitting : Declared → Written → Bool
is_fitting o (unary p a) = is_name_of Concept o p
is_fitting o (binary p a b) = is_name_of Role o p

abbrev pub first_unknown : Declared → List Written → Option (List ℕ)
first_unknown o facts = find (λ name. not (is_declared o name)) (map predicate facts)

abbrev pub first_misused : Declared → List Written → Option (List ℕ)
first_misused o facts = option_map predicate (find (λ written. not (is_fitting o written)) facts)

abbrev pub first_undeclared : Declared → List Written → Option (List ℕ)
first_undeclared o facts = find (λ name. not (is_name_of Individual o name))
    (flat_map arguments facts)

-- a line writes at most so many facts, repeats counted
abbrev pub most_facts : ℕ
most_facts = 65536

-- the first cause, by the first name at fault for each, and by how many facts are written
abbrev pub first_cause : Option (List ℕ) → Option (List ℕ) → Option (List ℕ) → ℕ → Option Cause
first_cause unknown_name misused_name undeclared_name count =
    option_or (option_map unknown unknown_name)
    (option_or (option_map wrong_kind misused_name)
    (option_or (option_map undeclared undeclared_name)
    (if nat_lt most_facts count then Some too_many_facts else None)))

abbrev pub cause_of : Declared → List Written → Option Cause
cause_of o facts = first_cause (first_unknown o facts) (first_misused o facts)
    (first_undeclared o facts) (length facts)

-- ---- what is said

abbrev pub individual_of : Declared → List ℕ → Option Element
individual_of o name = option_map (λ number.
    Ind (record { 0 = number })) (number_of Individual o name)

-- the fact by its numbers, if its names are declared so
abbrev pub fact_of : Declared → Written → Option Fact
fact_of o (unary p a) = do
  concept ← number_of Concept o p
  x ← individual_of o a
  Some (fact.Concept (record { 0 = concept }) x)
fact_of o (binary p a b) = do
  role ← number_of Role o p
  x ← individual_of o a
  y ← individual_of o b
  Some (fact.Role (record { 0 = role }) x y)

abbrev pub same_element : Element → Element → Bool
same_element (Ind i) (Ind j) = i.0 == j.0
same_element (Null m) (Null n) = m == n
same_element _ _ = false

abbrev pub same_fact : Fact → Fact → Bool
same_fact (fact.Concept c x) (fact.Concept d y) = c.0 == d.0 && same_element x y
same_fact (fact.Role p x y) (fact.Role q u v) = p.0 == q.0 && same_element x u && same_element y v
same_fact _ _ = false

-- the list with one more fact, unless it has the fact
abbrev pub with_fact : List Fact → Fact → List Fact
with_fact facts f = if list_any (same_fact f) facts then facts else facts ++ f ∷ []

-- a repeated fact keeps its first place only
unfoldable pub distinct : List Fact → List Fact
distinct facts = fold with_fact [] facts

-- nothing, a cause to refuse the line, the name of a further individual, or a snapshot
pub data Said : Type 0 where
  nothing : Said
  refused : Cause → Said
  names : List ℕ → Said
  says : List Fact → Said

unfoldable pub facts_say : Declared → List Written → Said
facts_say o facts = option_map_or refused (cause_of o facts)
    (says (distinct (filter_map (fact_of o) facts)))

abbrev pub line_says : Declared → Line → Said
line_says o blank = nothing
line_says o malformed = refused is_malformed
line_says o (declares name) = names name
line_says o (writes facts) = facts_say o facts

-- what a line of this form says
unfoldable pub said : Declared → StreamForm → List ℕ → Said
said o form line = line_says o (line_writes form line)
