-- What a line does to the ontology of the lines before it. The order of the faults is that of the
-- tests.
use Rattle.std.specs.Prelude.{ℕ, Bool, ◌||◌, nat_lt, if◌then◌else◌, List, length, position, Option}
use Rattle.std.specs.Prelude.{Some, None, is_some, Result, Ok, Err}
use Rattle.std.specs.Str.{bytes_eq}
use Rattle.dl_syntax.specs.declared.names.Kind.{Kind}
use Rattle.dl_syntax.specs.declared.names.Kind.TheVariants.{Concept, Role, Individual}
use Rattle.dl_syntax.specs.declared.ontology.Role as roles
use Rattle.dl_syntax.specs.declared.ontology.Basic.{Basic}
use Rattle.dl_syntax.specs.declared.ontology.Basic.TheVariants as basic
use Rattle.dl_syntax.specs.declared.ontology.Inclusion.{Inclusion}
use Rattle.dl_syntax.specs.declared.ontology.Inclusion.TheVariants as inclusion
use Rattle.dl_syntax.specs.declared.ontology.Clash.{Clash}
use Rattle.dl_syntax.specs.declared.ontology.Clash.TheVariants as clash
use Rattle.dl_syntax.specs.Ontology.{Declared, names_of, number_of, is_declared, with_name}
use Rattle.dl_syntax.specs.Ontology.{with_inclusion, with_clash, most_names, most_inclusions}
use Rattle.dl_syntax.specs.Ontology.{most_clashes}
use Rattle.ontology_reader.specs.declared.OntologyKind.{OntologyKind}
use Rattle.ontology_reader.specs.declared.OntologyKind.TheVariants.{BadLine, NameTwice, Unknown}
use Rattle.ontology_reader.specs.declared.OntologyKind.TheVariants.{WrongKind, TooMany}
use Rattle.ontology_reader.specs.Sayings.{RoleTerm, BasicTerm, concept, existing, Saying, nothing}
use Rattle.ontology_reader.specs.Sayings.{declares, includes, includes_qualified, includes_roles}
use Rattle.ontology_reader.specs.Sayings.{disjoint, disjoint_roles, has_no_form, line_says}

infixl 10 ◌>>=◌
abbrev pub ◌>>=◌ : {A B : Type 0} → Result A OntologyKind → (A → Result B OntologyKind)
    → Result B OntologyKind
(Ok x) >>= f = f x
(Err e) >>= f = Err e

-- a value where there is room
abbrev pub if_fewer : {X : Type 0} → ℕ → ℕ → X → Result X OntologyKind
if_fewer count most x = if nat_lt count most then Ok x else Err TooMany

abbrev pub declared : Declared → Kind → List ℕ → Result Declared OntologyKind
declared o kind text =
    if is_declared o text then Err NameTwice
    else if_fewer (length (names_of kind o)) (most_names kind) (with_name kind text o)

-- the number of a name that is to be of this kind, by the number of the name of this kind
abbrev pub number_or_fault : Option ℕ → Bool → Result ℕ OntologyKind
number_or_fault (Some number) of_some_kind = Ok number
number_or_fault None of_some_kind = if of_some_kind then Err WrongKind else Err Unknown

abbrev pub resolved : Declared → Kind → List ℕ → Result ℕ OntologyKind
resolved o kind text = number_or_fault (number_of kind o text) (is_declared o text)

abbrev pub role_of : Declared → RoleTerm → Result roles.Role OntologyKind
role_of o r = do
  number ← resolved o Role r.role
  Ok (record { id = record { 0 = number }; inverse = r.inverse })

abbrev pub basic_of : Declared → BasicTerm → Result Basic OntologyKind
basic_of o (concept text) = do
  number ← resolved o Concept text
  Ok (basic.Concept (record { 0 = number }))
basic_of o (existing r) = do
  role ← role_of o r
  Ok (basic.Some role)

abbrev pub included : Declared → Inclusion → Result Declared OntologyKind
included o i = if_fewer (length o.inclusions) most_inclusions (with_inclusion i o)

abbrev pub with_disjointness : Declared → Clash → Result Declared OntologyKind
with_disjointness o m = if_fewer (length o.clashes) most_clashes (with_clash m o)

unfoldable pub added : Declared → Saying → Result Declared OntologyKind
added o nothing = Ok o
added o (declares kind text) = declared o kind text
added o (includes left right) = do
  b ← basic_of o left
  c ← basic_of o right
  included o (inclusion.Concepts b c)
added o (includes_qualified left role text) = do
  b ← basic_of o left
  r ← role_of o role
  number ← resolved o Concept text
  included o (inclusion.Qualified b r (record { 0 = number }))
added o (includes_roles left right) = do
  r ← role_of o left
  s ← role_of o right
  included o (inclusion.Roles r s)
added o (disjoint left right) = do
  b ← basic_of o left
  c ← basic_of o right
  with_disjointness o (clash.Concepts b c)
added o (disjoint_roles left right) = do
  r ← role_of o left
  s ← role_of o right
  with_disjointness o (clash.Roles r s)
added o has_no_form = Err BadLine

unfoldable pub line_added : Declared → List ℕ → Result Declared OntologyKind
line_added o line = added o (line_says line)
