-- The documents of the profile, as OWL 2 writes them in functional style (Motik, Patel-Schneider
-- and Parsia, 2012). Each relation is between tokens, the rest of them behind what they begin with,
-- and what that is.
use Rattle.std.specs.Prelude.{◌≡◌, ◌≤◌, ℕ, true, false, List, [], ◌∷◌, length, codes}
use Rattle.std.specs.Prelude.{None}
use Rattle.dl_syntax.specs.declared.names.Kind.TheVariants as as_kind
use Rattle.owl_tokens.specs.declared.tokens.TokenKind.{TokenKind}
use Rattle.owl_tokens.specs.declared.tokens.TokenKind.TheVariants as kind
use Rattle.owl_tokens.specs.declared.words.Head.{Head}
use Rattle.owl_tokens.specs.declared.words.Head.TheVariants as head
use Rattle.owl_tokens.specs.Tokens.{Lexeme}
use Rattle.owl_tokens.specs.Tables.{Table}
use Rattle.owl_tokens.specs.Iris.{is_thing, prefix_of, between_brackets, own_prefixes}
use Rattle.owl_tokens.specs.Iris.{with_prefixes}
use Rattle.owl_tokens.specs.Words.{head_of}
use Rattle.owl_documents.specs.declared.items.Shape.{Shape}
use Rattle.owl_documents.specs.declared.items.Shape.TheVariants as shape
use Rattle.owl_documents.specs.declared.items.ItemShape.TheVariants as item
use Rattle.owl_documents.specs.Terms.{has_colon, group_of, Entity, named, refused, Role, Class}
use Rattle.owl_documents.specs.Terms.{everything, only, some_of, some_in, narrowed}
use Rattle.owl_documents.specs.Items.{Content, Declaration, of_entity, of_annotations}
use Rattle.owl_documents.specs.Items.{of_refused, Item, silent, not_taken, states, declared_item}
use Rattle.owl_documents.specs.Items.{shape_of, annotation_first}
use Rattle.owl_documents.specs.Documents.{Document, is_prefix_name, behind_iris}

-- ---- marks, words and groups

-- a closing parenthesis at this place
pub record Closes (place : ℕ) (tokens rest : List Lexeme) : Type 0 where
  pub close : Lexeme
  pub written : tokens ≡ close ∷ rest
  pub closes : close.kind ≡ kind.Close
  pub at : close.start ≡ place

-- a word and the opening parenthesis of the group that it heads
pub record Opens (word : Lexeme) (tokens rest : List Lexeme) : Type 0 where
  pub open_mark : Lexeme
  pub written : tokens ≡ word ∷ open_mark ∷ rest
  pub is_word : word.kind ≡ kind.Word
  pub opens : open_mark.kind ≡ kind.Open

-- the same, where the word is this one
pub record Heads (form : Head) (word : Lexeme) (tokens rest : List Lexeme) : Type 0 where
  pub opens : Opens word tokens rest
  pub is : head_of word.text ≡ form

-- what stands in a group by itself
pub data IsPlain : TokenKind → Type 0 where
  equal : IsPlain kind.Equal
  iri : IsPlain kind.Iri
  text : IsPlain kind.Text
  word : IsPlain kind.Word

-- any tokens, with all parentheses in pairs
pub data Balanced : List Lexeme → List Lexeme → Type 0 where
  nothing : (rest : List Lexeme) → Balanced rest rest
  plain : (t : Lexeme) (tokens rest : List Lexeme) → IsPlain t.kind → Balanced tokens rest
      → Balanced (t ∷ tokens) rest
  pair : (t : Lexeme) (inside last behind rest : List Lexeme) (place : ℕ)
      → t.kind ≡ kind.Open → Balanced inside last → Closes place last behind
      → Balanced behind rest → Balanced (t ∷ inside) rest

-- any group in balanced parentheses, from behind its opening parenthesis on
pub record Group (inside rest : List Lexeme) : Type 0 where
  pub place : ℕ
  pub last : List Lexeme
  pub balanced : Balanced inside last
  pub closes : Closes place last rest

-- one after the other
pub data Each {X : Type 0} (One : List Lexeme → List Lexeme → X
    → Type 0) : List Lexeme → List Lexeme → List X → Type 0 where
  none : (rest : List Lexeme) → Each One rest rest []
  more : (tokens behind rest : List Lexeme) (x : X) (xs : List X) → One tokens behind x
      → Each One behind rest xs → Each One tokens rest (x ∷ xs)

-- axiomAnnotations: all annotations that the tokens begin with
pub data Annotations : List Lexeme → List Lexeme → Type 0 where
  none : (tokens : List Lexeme) → annotation_first tokens ≡ None → Annotations tokens tokens
  more : (word : Lexeme) (tokens inside behind rest : List Lexeme)
      → Heads head.Annotation word tokens inside → Group inside behind → Annotations behind rest
      → Annotations tokens rest

-- ---- entities, and what isn't taken

-- an entity: an IRI, or a prefix and a local name, which is a word that heads no group
pub data Names (t : Lexeme) (tokens rest : List Lexeme) : Type 0 where
  by_iri : tokens ≡ t ∷ rest → t.kind ≡ kind.Iri → Names t tokens rest
  by_prefix : tokens ≡ t ∷ rest → t.kind ≡ kind.Word → has_colon t.text ≡ true
      → group_of rest ≡ None → Names t tokens rest

-- an entity or any group
pub data AnyTerm (tokens rest : List Lexeme) : Type 0 where
  entity : (t : Lexeme) → Names t tokens rest → AnyTerm tokens rest
  group : (word : Lexeme) (inside : List Lexeme) → Opens word tokens inside → Group inside rest
      → AnyTerm tokens rest

module _ (known : Table) where
  -- any entity but owl:Thing, or any group
  pub data AnyFiller (tokens rest : List Lexeme) : Type 0 where
    entity : (t : Lexeme) → Names t tokens rest → is_thing known t ≡ false
        → AnyFiller tokens rest
    group : (word : Lexeme) (inside : List Lexeme) → Opens word tokens inside → Group inside rest
        → AnyFiller tokens rest

  -- an expression that isn't taken, by the word that heads it: a group that no word of the profile
  -- heads, or `ObjectSomeValuesFrom(R C)` with another C than owl:Thing
  pub data Unsupported (word : Lexeme) (tokens rest : List Lexeme) : Type 0 where
    other : (inside : List Lexeme) → Heads head.Other word tokens inside → Group inside rest
        → Unsupported word tokens rest
    qualified : (inside filler behind : List Lexeme) (place : ℕ)
        → Heads head.ObjectSomeValuesFrom word tokens inside → AnyTerm inside filler
        → AnyFiller filler behind → Closes place behind rest → Unsupported word tokens rest

  -- an entity but owl:Thing, or what isn't taken in its place
  pub data IsFiller (tokens rest : List Lexeme) : Entity → Type 0 where
    entity : (t : Lexeme) → Names t tokens rest → is_thing known t ≡ false
        → IsFiller tokens rest (named t)
    unsupported : (word : Lexeme) → Unsupported word tokens rest
        → IsFiller tokens rest (refused word)

  -- an entity, where owl:Thing isn't taken
  pub data IsEntity (tokens rest : List Lexeme) : Entity → Type 0 where
    but_thing : (e : Entity) → IsFiller tokens rest e → IsEntity tokens rest e
    thing : (t : Lexeme) → Names t tokens rest → is_thing known t ≡ true
        → IsEntity tokens rest (refused t)

  -- ---- expressions

  -- ObjectPropertyExpression: an object property, or `ObjectInverseOf(r)`
  pub data IsRole (tokens rest : List Lexeme) : Role → Type 0 where
    property : (e : Entity) → IsEntity tokens rest e
        → IsRole tokens rest (record { entity = e; inverse = false })
    inverse : (word : Lexeme) (inside behind : List Lexeme) (e : Entity) (place : ℕ)
        → Heads head.ObjectInverseOf word tokens inside → IsEntity inside behind e
        → Closes place behind rest → IsRole tokens rest (record { entity = e; inverse = true })

  -- ClassExpression: a class, owl:Thing, or `ObjectSomeValuesFrom(R C)` with such a C
  pub data IsClass (tokens rest : List Lexeme) : Class → Type 0 where
    class : (t : Lexeme) → Names t tokens rest → is_thing known t ≡ false
        → IsClass tokens rest (only (named t))
    thing : (t : Lexeme) → Names t tokens rest → is_thing known t ≡ true
        → IsClass tokens rest (everything t)
    other : (word : Lexeme) (inside : List Lexeme) → Heads head.Other word tokens inside
        → Group inside rest → IsClass tokens rest (only (refused word))
    some_thing : (word t : Lexeme) (inside filler behind : List Lexeme) (r : Role) (place : ℕ)
        → Heads head.ObjectSomeValuesFrom word tokens inside → IsRole inside filler r
        → Names t filler behind → is_thing known t ≡ true → Closes place behind rest
        → IsClass tokens rest (some_of r)
    some_filler : (word : Lexeme) (inside filler behind : List Lexeme) (r : Role) (e : Entity)
        (place : ℕ) → Heads head.ObjectSomeValuesFrom word tokens inside → IsRole inside filler r
        → IsFiller filler behind e → Closes place behind rest
        → IsClass tokens rest (some_in word r e)

  -- a class expression where owl:Thing and qualified ones aren't taken
  pub data IsBasic (tokens rest : List Lexeme) : Class → Type 0 where
    narrow : (class : Class) → IsClass tokens rest class → IsBasic tokens rest (narrowed class)

  -- ---- axioms

  -- the roles and class expressions of an axiom, by its shape
  pub data IsContent (tokens rest : List Lexeme) : Shape → Content → Type 0 where
    one_role : (r : Role) → IsRole tokens rest r
        → IsContent tokens rest shape.OneRole (r ∷ [], [])
    two_roles : (behind : List Lexeme) (r s : Role) → IsRole tokens behind r
        → IsRole behind rest s → IsContent tokens rest shape.TwoRoles (r ∷ s ∷ [], [])
    several_roles : (rs : List Role) → Each IsRole tokens rest rs → 2 ≤ length rs
        → IsContent tokens rest shape.SeveralRoles (rs, [])
    role_and_class : (behind : List Lexeme) (r : Role) (c : Class) → IsRole tokens behind r
        → IsClass behind rest c → IsContent tokens rest shape.RoleAndClass (r ∷ [], c ∷ [])
    two_classes : (behind : List Lexeme) (c d : Class) → IsBasic tokens behind c
        → IsClass behind rest d → IsContent tokens rest shape.TwoClasses ([], c ∷ d ∷ [])
    several_classes : (cs : List Class) → Each IsBasic tokens rest cs → 2 ≤ length cs
        → IsContent tokens rest shape.SeveralClasses ([], cs)

  -- ---- items

  -- an entity by its kind, in a declaration
  pub data IsDeclaration (tokens rest : List Lexeme) : Declaration → Type 0 where
    class : (word : Lexeme) (inside behind : List Lexeme) (e : Entity) (place : ℕ)
        → Heads head.Class word tokens inside → IsEntity inside behind e
        → Closes place behind rest → IsDeclaration tokens rest (of_entity as_kind.Concept e)
    property : (word : Lexeme) (inside behind : List Lexeme) (e : Entity) (place : ℕ)
        → Heads head.ObjectProperty word tokens inside → IsEntity inside behind e
        → Closes place behind rest → IsDeclaration tokens rest (of_entity as_kind.Role e)
    individual : (word : Lexeme) (inside behind : List Lexeme) (e : Entity) (place : ℕ)
        → Heads head.NamedIndividual word tokens inside → IsEntity inside behind e
        → Closes place behind rest → IsDeclaration tokens rest (of_entity as_kind.Individual e)
    annotations : (word : Lexeme) (inside : List Lexeme)
        → Heads head.AnnotationProperty word tokens inside → Group inside rest
        → IsDeclaration tokens rest of_annotations
    unsupported : (word : Lexeme) → Unsupported word tokens rest
        → IsDeclaration tokens rest (of_refused word)
    thing : (t : Lexeme) → Names t tokens rest → is_thing known t ≡ true
        → IsDeclaration tokens rest (of_refused t)

  -- an item, by the word that heads it
  pub data IsItem (tokens rest : List Lexeme) : Item → Type 0 where
    declares : (form : Head) (word : Lexeme) (inside shown behind : List Lexeme) (d : Declaration)
        (place : ℕ) → shape_of form ≡ item.Declares → Heads form word tokens inside
        → Annotations inside shown → IsDeclaration shown behind d → Closes place behind rest
        → IsItem tokens rest (declared_item d place)
    axioms : (form : Head) (word : Lexeme) (inside shown behind : List Lexeme) (as_shape : Shape)
        (c : Content) (place : ℕ) → shape_of form ≡ item.States as_shape
        → Heads form word tokens inside → Annotations inside shown
        → IsContent shown behind as_shape c → Closes place behind rest → IsItem tokens rest
        (states (record { form = form; roles = c.0; classes = c.1; close = place }))
    says_nothing : (form : Head) (word : Lexeme) (inside : List Lexeme)
        → shape_of form ≡ item.Silent → Heads form word tokens inside → Group inside rest
        → IsItem tokens rest silent
    unsupported : (form : Head) (word : Lexeme) (inside : List Lexeme)
        → shape_of form ≡ item.NotTaken → Heads form word tokens inside → Group inside rest
        → IsItem tokens rest (not_taken word)

-- ---- documents

-- prefixDeclaration: `Prefix(p:=<iri>)`, with no `:` in p
pub record IsPrefix (tokens rest : List Lexeme) (p : List ℕ × List ℕ) : Type 0 where
  pub word : Lexeme
  pub inside : List Lexeme
  pub opens : Opens word tokens inside
  pub is : word.text ≡ codes "Prefix"
  pub name : Lexeme
  pub equal : Lexeme
  pub iri : Lexeme
  pub behind : List Lexeme
  pub written : inside ≡ name ∷ equal ∷ iri ∷ behind
  pub has_name : is_prefix_name name ≡ true
  pub equals : equal.kind ≡ kind.Equal
  pub has_iri : iri.kind ≡ kind.Iri
  pub place : ℕ
  pub closes : Closes place behind rest
  pub says : (prefix_of name.text, between_brackets iri.text) ≡ p

-- ontologyDocument: prefixes, and an ontology of two IRIs at most and items, with the prefixes that
-- are known in it
pub record IsDocument (tokens : List Lexeme) (d : Document) : Type 0 where
  pub prefixes : List (List ℕ × List ℕ)
  pub behind : List Lexeme
  pub prefixed : Each IsPrefix tokens behind prefixes
  pub known : with_prefixes own_prefixes prefixes ≡ d.known
  pub word : Lexeme
  pub inside : List Lexeme
  pub opens : Opens word behind inside
  pub is : word.text ≡ codes "Ontology"
  pub last : List Lexeme
  pub listed : Each (IsItem d.known) (behind_iris inside) last d.items
  pub place : ℕ
  pub closes : Closes place last []
