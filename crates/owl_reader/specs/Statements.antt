-- What the items of a document say, in the statements of an ontology.
use Rattle.std.specs.Prelude.{ℕ, nat_lt, ◌||◌, ◌&&◌, not, Bool, false, if◌then◌else◌}
use Rattle.std.specs.Prelude.{List, [], ◌∷◌, ◌++◌, map, length, codes, is_some, Option, Some, None}
use Rattle.std.specs.Prelude.{Result, Ok, Err}
use Rattle.std.specs.List.{list_all}
use Rattle.std.specs.Str.{bytes_eq}
use Rattle.dl_syntax.specs.declared.names.Kind.{Kind}
use Rattle.dl_syntax.specs.declared.names.Kind.TheVariants as as_kind
use Rattle.dl_syntax.specs.Names.{is_letter, is_name_byte}
use Rattle.dl_syntax.specs.Ontology.{Declared, is_declared}
use Rattle.ontology_reader.specs.declared.OntologyKind.{OntologyKind}
use Rattle.ontology_reader.specs.Sayings.{RoleTerm, BasicTerm, concept, existing, Saying, nothing}
use Rattle.ontology_reader.specs.Sayings.{declares, includes, includes_qualified, includes_roles}
use Rattle.ontology_reader.specs.Sayings.{disjoint, disjoint_roles}
use Rattle.ontology_reader.specs.Adding.{added}
use Rattle.owl_tokens.specs.declared.words.Head.{Head}
use Rattle.owl_tokens.specs.declared.words.Head.TheVariants as head
use Rattle.owl_reader.specs.declared.entities.Flaw.{Flaw}
use Rattle.owl_reader.specs.declared.entities.Flaw.TheVariants as flaw
use Rattle.owl_tokens.specs.Tokens.{Lexeme}
use Rattle.owl_tokens.specs.Tables.{Table, looked_up, put}
use Rattle.owl_tokens.specs.Iris.{expanded, name_of}
use Rattle.owl_documents.specs.Terms as t
use Rattle.owl_documents.specs.Items as i

-- what is said, or the first flaw with the place of its token
abbrev pub Said : Type 0 → Type 0
Said X = Result X (ℕ × Flaw)

infixl 10 ◌>>=◌
abbrev pub ◌>>=◌ : {A B : Type 0} → Said A → (A → Said B) → Said B
(Ok x) >>= f = f x
(Err e) >>= f = Err e

-- ---- entities

-- the IRIs that are declared as each kind, with the names of their entities
pub record Entities : Type 0 where
  pub concepts : Table
  pub roles : Table
  pub individuals : Table

abbrev pub no_entities : Entities
no_entities = record { concepts = []; roles = []; individuals = [] }

abbrev pub entities_of : Kind → Entities → Table
entities_of as_kind.Concept es = es.concepts
entities_of as_kind.Role es = es.roles
entities_of as_kind.Individual es = es.individuals

abbrev pub with_entity : Kind → List ℕ → List ℕ → Entities → Entities
with_entity as_kind.Concept iri name es = record es { concepts = put iri name es.concepts }
with_entity as_kind.Role iri name es = record es { roles = put iri name es.roles }
with_entity as_kind.Individual iri name es = record es { individuals = put iri name es.individuals }

-- whether an IRI is declared as some kind
abbrev pub is_entity : Entities → List ℕ → Bool
is_entity es iri = is_some (looked_up iri es.concepts) ||
    (is_some (looked_up iri es.roles) || is_some (looked_up iri es.individuals))

-- a letter and then letters, digits, underscores and hyphens, fewer than 65 bytes
abbrev pub is_name : List ℕ → Bool
is_name [] = false
is_name (first ∷ rest) = nat_lt (length (first ∷ rest)) 65 &&
    (is_letter first && list_all is_name_byte rest)

abbrev pub is_reserved : List ℕ → Bool
is_reserved text = bytes_eq text (codes "some") || bytes_eq text (codes "inv")

-- whether an ontology may have the name
unfoldable pub is_usable : List ℕ → Bool
is_usable text = is_name text && not (is_reserved text)

abbrev pub name_or_flaw : Lexeme → Option (List ℕ) → Said (List ℕ)
name_or_flaw t None = Err (t.start, flaw.WrongKind)
name_or_flaw t (Some name) = Ok name

-- the name of an entity that is to be of this kind, by the IRI that it stands for
abbrev pub iri_resolved : Entities → Kind → Lexeme → Option (List ℕ) → Said (List ℕ)
iri_resolved es kind t None = Err (t.start, flaw.Unknown)
iri_resolved es kind t (Some iri) =
    if is_entity es iri then (if is_usable (name_of t) then name_or_flaw t
    (looked_up iri (entities_of kind es)) else Err (t.start, flaw.BadName))
    else Err (t.start, flaw.Unknown)

-- the name of an entity that is to be of this kind; what isn't taken is of no kind
abbrev pub resolved : Table → Entities → Kind → t.Entity → Said (List ℕ)
resolved known es kind (t.named t) = iri_resolved es kind t (expanded known t)
resolved known es kind (t.refused t) = Err (t.start, flaw.WrongKind)

-- ---- terms

-- a role, a basic concept, owl:Thing, or what has a partner by a role in a concept
pub data Term : Type 0 where
  role : RoleTerm → Term
  basic : BasicTerm → Term
  everything : Term
  qualified : RoleTerm → List ℕ → Term

abbrev pub role_said : Table → Entities → t.Role → Said RoleTerm
role_said known es r = do
  name ← resolved known es as_kind.Role r.entity
  Ok (record { role = name; inverse = r.inverse })

abbrev pub role_term : Table → Entities → t.Role → Said Term
role_term known es r = do
  said ← role_said known es r
  Ok (role said)

abbrev pub class_term : Table → Entities → t.Class → Said Term
class_term known es (t.everything t) = Ok everything
class_term known es (t.only e) = do
  name ← resolved known es as_kind.Concept e
  Ok (basic (concept name))
class_term known es (t.some_of r) = do
  said ← role_said known es r
  Ok (basic (existing said))
class_term known es (t.some_in t r e) = do
  said ← role_said known es r
  name ← resolved known es as_kind.Concept e
  Ok (qualified said name)

unfoldable pub all_said : {X : Type 0} → (X → Said Term) → List X → Said (List Term)
all_said one [] = Ok []
all_said one (x ∷ xs) = one x >>= (λ first. all_said one xs >>= (λ later. Ok (first ∷ later)))

-- these terms, and those that are said behind them
abbrev pub said_behind : List Term → Said (List Term) → Said (List Term)
said_behind front later = later >>= (λ terms. Ok (front ++ terms))

-- the roles of an axiom, and then its class expressions
unfoldable pub terms_said : Table → Entities → i.Axiom → Said (List Term)
terms_said known es a = do
  roles ← all_said (role_term known es) a.roles
  said_behind roles (all_said (class_term known es) a.classes)

-- ---- statements

abbrev pub inverse_of : RoleTerm → RoleTerm
inverse_of r = record { role = r.role; inverse = not r.inverse }

-- the first is in the second; everything is in owl:Thing
abbrev pub sub : Term → Term → Saying
sub (role r) (role s) = includes_roles r s
sub (basic b) (basic c) = includes b c
sub (basic b) (qualified r name) = includes_qualified b r name
sub _ _ = nothing

-- the two have nothing in common
abbrev pub disjoint_terms : Term → Term → Saying
disjoint_terms (role r) (role s) = disjoint_roles r s
disjoint_terms (basic b) (basic c) = disjoint b c
disjoint_terms _ _ = nothing

-- each in the next one, and the last in the first
abbrev pub in_turn : Term → Term → List Term → List Saying
in_turn first x [] = sub x first ∷ []
in_turn first x (y ∷ rest) = sub x y ∷ in_turn first y rest

abbrev pub equivalent : List Term → List Saying
equivalent [] = []
equivalent (x ∷ rest) = in_turn x x rest

-- each disjoint with each of those behind it
abbrev pub all_disjoint : List Term → List Saying
all_disjoint [] = []
all_disjoint (x ∷ rest) = map (disjoint_terms x) rest ++ all_disjoint rest

-- the inverse of a role
abbrev pub turned : Term → Term
turned (role r) = role (inverse_of r)
turned term = term

-- what stands first in some pair of a role
abbrev pub standing : Term → Term
standing (role r) = basic (existing r)
standing term = term

-- each of two roles is the other one the other way round
abbrev pub inverses : List Term → List Saying
inverses (r ∷ s ∷ []) = sub r (turned s) ∷ sub (turned s) r ∷ []
inverses _ = []

abbrev pub symmetric : List Term → List Saying
symmetric (r ∷ []) = sub r (turned r) ∷ []
symmetric _ = []

abbrev pub asymmetric : List Term → List Saying
asymmetric (r ∷ []) = disjoint_terms r (turned r) ∷ []
asymmetric _ = []

abbrev pub sub_first : List Term → List Saying
sub_first (x ∷ y ∷ []) = sub x y ∷ []
sub_first _ = []

-- what stands first in a pair of the role is in the class
abbrev pub domain : List Term → List Saying
domain (r ∷ c ∷ []) = sub (standing r) c ∷ []
domain _ = []

-- what stands second in a pair of the role is in the class
abbrev pub range : List Term → List Saying
range (r ∷ c ∷ []) = sub (standing (turned r)) c ∷ []
range _ = []

-- what an axiom says, by the word that heads it
abbrev pub statements : Head → List Term → List Saying
statements head.SubClassOf terms = sub_first terms
statements head.SubObjectPropertyOf terms = sub_first terms
statements head.EquivalentClasses terms = equivalent terms
statements head.EquivalentObjectProperties terms = equivalent terms
statements head.DisjointClasses terms = all_disjoint terms
statements head.DisjointObjectProperties terms = all_disjoint terms
statements head.InverseObjectProperties terms = inverses terms
statements head.SymmetricObjectProperty terms = symmetric terms
statements head.AsymmetricObjectProperty terms = asymmetric terms
statements head.ObjectPropertyDomain terms = domain terms
statements head.ObjectPropertyRange terms = range terms
statements _ terms = []

abbrev pub added_one : Declared → Saying → Result Declared OntologyKind
added_one o s = added o s

-- the ontology after the statements
unfoldable pub all_added : Declared → List Saying → Result Declared OntologyKind
all_added o [] = Ok o
all_added o (s ∷ rest) = elim (added o s) [ Ok next ↦ all_added next rest | Err kind ↦ Err kind ]

-- statements that pass a limit are at fault at the closing parenthesis
abbrev pub within_limits : ℕ → Result Declared OntologyKind → Said Declared
within_limits close (Ok o) = Ok o
within_limits close (Err kind) = Err (close, flaw.TooMany)

unfoldable pub axiom_added : Table → Entities → Declared → i.Axiom → Said Declared
axiom_added known es o a = do
  terms ← terms_said known es a
  within_limits a.close (all_added o (statements a.form terms))

abbrev pub item_added : Table → Entities → Declared → i.Item → Said Declared
item_added known es o (i.states a) = axiom_added known es o a
item_added known es o _ = Ok o

unfoldable pub axioms_added : Table → Entities → Declared → List i.Item → Said Declared
axioms_added known es o [] = Ok o
axioms_added known es o (item ∷ rest) =
    item_added known es o item >>= (λ next. axioms_added known es next rest)

-- ---- declarations

-- the entities and the ontology of the declarations so far
pub record Vocabulary : Type 0 where
  pub entities : Entities
  pub ontology : Declared

-- a new entity; one whose name the ontology has is at fault
abbrev pub newly_declared : Vocabulary → Kind → Lexeme → List ℕ → ℕ → Said Vocabulary
newly_declared v kind t iri close =
    if is_declared v.ontology (name_of t) then Err (t.start, flaw.NameTwice)
    else (within_limits close (added v.ontology (declares kind (name_of t))) >>= (λ o.
    Ok (record { entities = with_entity kind iri (name_of t) v.entities; ontology = o })))

-- the name of a repeated declaration is that of another entity
abbrev pub is_given : Vocabulary → Lexeme → List ℕ → Bool
is_given v t name = not (bytes_eq name (name_of t)) && is_declared v.ontology (name_of t)

-- an entity that is declared as the kind before says nothing more
abbrev pub again_declared : Vocabulary → Lexeme → List ℕ → Said Vocabulary
again_declared v t name = if is_given v t name then Err (t.start, flaw.NameTwice) else Ok v

abbrev pub known_or_new : Vocabulary → Kind → Lexeme → List ℕ → ℕ → Option (List ℕ)
    → Said Vocabulary
known_or_new v kind t iri close None = newly_declared v kind t iri close
known_or_new v kind t iri close (Some name) = again_declared v t name

abbrev pub iri_declared : Vocabulary → Kind → Lexeme → ℕ → Option (List ℕ) → Said Vocabulary
iri_declared v kind t close None = Err (t.start, flaw.Unknown)
iri_declared v kind t close (Some iri) =
    if is_usable (name_of t) then known_or_new v kind t iri close
    (looked_up iri (entities_of kind v.entities)) else Err (t.start, flaw.BadName)

abbrev pub entity_declared : Table → Vocabulary → Kind → t.Entity → ℕ → Said Vocabulary
entity_declared known v kind (t.named t) close = iri_declared v kind t close (expanded known t)
entity_declared known v kind (t.refused t) close = Err (t.start, flaw.WrongKind)

abbrev pub item_declared : Table → Vocabulary → i.Item → Said Vocabulary
item_declared known v (i.declares kind e close) = entity_declared known v kind e close
item_declared known v _ = Ok v

unfoldable pub all_declared : Table → Vocabulary → List i.Item → Said Vocabulary
all_declared known v [] = Ok v
all_declared known v (item ∷ rest) =
    item_declared known v item >>= (λ next. all_declared known next rest)
