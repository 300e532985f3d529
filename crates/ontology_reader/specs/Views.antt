-- Words and what they say, without where they lie in memory.
use Rattle.ontology_reader.specs.declared.words.Word.TheVariants as word
use Rattle.ontology_reader.specs.declared.words.Word as words
use Rattle.ontology_reader.specs.declared.sayings.RoleTerm as roles
use Rattle.ontology_reader.specs.declared.sayings.BasicTerm as basics
use Rattle.ontology_reader.specs.declared.sayings.BasicTerm.TheVariants as basic
use Rattle.ontology_reader.specs.declared.sayings.Saying as sayings
use Rattle.ontology_reader.specs.declared.sayings.Saying.TheVariants as saying
use Rattle.ontology_reader.specs.Sayings.{Word, some, inv, name, RoleTerm, BasicTerm, concept}
use Rattle.ontology_reader.specs.Sayings.{existing, Saying, nothing, declares, includes}
use Rattle.ontology_reader.specs.Sayings.{includes_qualified, includes_roles, disjoint}
use Rattle.ontology_reader.specs.Sayings.{disjoint_roles, has_no_form}

abbrev pub word_seen : words.Word → Word
word_seen word.Some = some
word_seen word.Inv = inv
word_seen (word.Name text) = name text.now

abbrev pub role_seen : roles.RoleTerm → RoleTerm
role_seen r = record { role = r.role.now; inverse = r.inverse }

abbrev pub basic_seen : basics.BasicTerm → BasicTerm
basic_seen (basic.Concept text) = concept text.now
basic_seen (basic.Existing r) = existing (role_seen r)

abbrev pub saying_seen : sayings.Saying → Saying
saying_seen saying.Nothing = nothing
saying_seen (saying.Declares kind text) = declares kind text.now
saying_seen (saying.Includes left right) = includes (basic_seen left) (basic_seen right)
saying_seen (saying.IncludesQualified left role text) =
    includes_qualified (basic_seen left) (role_seen role) text.now
saying_seen (saying.IncludesRoles left right) = includes_roles (role_seen left) (role_seen right)
saying_seen (saying.Disjoint left right) = disjoint (basic_seen left) (basic_seen right)
saying_seen (saying.DisjointRoles left right) = disjoint_roles (role_seen left) (role_seen right)
saying_seen saying.HasNoForm = has_no_form
