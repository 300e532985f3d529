-- Trees and answers, without where their texts lie in memory.
use Rattle.std.specs.Prelude.{◌≡◌, ℕ, List, length, map, Some, None, Result, Ok}
use Rattle.std.specs.Prelude.{Err}
use Rattle.owl_documents.specs.declared.groups.Stop.{Stop}
use Rattle.owl_documents.specs.declared.groups.Stop.TheVariants as stop
use Rattle.owl_documents.specs.declared.terms.First as firsts
use Rattle.owl_documents.specs.declared.terms.First.TheVariants as first_of
use Rattle.owl_documents.specs.declared.terms.Entity as entities
use Rattle.owl_documents.specs.declared.terms.Entity.TheVariants as entity_of
use Rattle.owl_documents.specs.declared.terms.Role as roles
use Rattle.owl_documents.specs.declared.terms.Class as classes
use Rattle.owl_documents.specs.declared.terms.Class.TheVariants as class_of
use Rattle.owl_tokens.specs.Tokens.{Lexeme, lexeme}
use Rattle.owl_documents.specs.Terms.{Read, stops_at, First, entity, group, Entity, named, refused}
use Rattle.owl_documents.specs.Terms.{Role, Class, everything, only, some_of, some_in}

-- the answer is what is read, unless memory ran out
abbrev pub Gives : {X Y : Type 0} → Result X Stop → Read Y → (X → Y) → Type 0
Gives (Ok x) given see = given ≡ Ok (see x)
Gives (Err (stop.At place)) given see = given ≡ Err (Some place)
Gives (Err stop.End) given see = given ≡ Err None
Gives (Err stop.Memory) given see = Unit {0}

-- the fault is at the first of the tokens
abbrev pub IsStop : Stop → List Lexeme → Type 0
IsStop (stop.At place) tokens = stops_at {X = Unit {0}} tokens ≡ Err (Some place)
IsStop stop.End tokens = stops_at {X = Unit {0}} tokens ≡ Err None
IsStop stop.Memory tokens = ⊥

-- how many tokens are behind what a term begins with
abbrev pub room_behind : firsts.First → ℕ
room_behind (first_of.Entity t rest) = length rest.now
room_behind (first_of.Group word t inside) = length inside.now

module _ (bytes : List ℕ) where
  abbrev pub first_seen : firsts.First → First
  first_seen (first_of.Entity t rest) = entity (lexeme bytes t) (map (lexeme bytes) rest.now)
  first_seen (first_of.Group word t inside) =
      group word (lexeme bytes t) (map (lexeme bytes) inside.now)

  abbrev pub entity_seen : entities.Entity → Entity
  entity_seen (entity_of.Named t) = named (lexeme bytes t)
  entity_seen (entity_of.Refused t) = refused (lexeme bytes t)

  abbrev pub role_seen : roles.Role → Role
  role_seen r = record { entity = entity_seen r.entity; inverse = r.inverse }

  abbrev pub class_seen : classes.Class → Class
  class_seen (class_of.Everything t) = everything (lexeme bytes t)
  class_seen (class_of.Only e) = only (entity_seen e)
  class_seen (class_of.SomeOf r) = some_of (role_seen r)
  class_seen (class_of.SomeIn t r e) = some_in (lexeme bytes t) (role_seen r) (entity_seen e)
