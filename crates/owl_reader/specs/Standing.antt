-- The statements that a document stands for, and its first fault.
use Rattle.std.specs.Prelude.{◌≡◌, ◌≤◌, ◌<◌, ℕ, Bool, true, false, List, [], ◌∷◌, ◌++◌, length}
use Rattle.std.specs.Prelude.{take}
use Rattle.std.specs.Prelude.{Option, Some, None, Ok, Err}
use Rattle.dl_syntax.specs.declared.names.Kind.{Kind}
use Rattle.ontology_reader.specs.Sayings.{Saying}
use Rattle.ontology_reader.specs.Sayings as saying
use Rattle.owl_tokens.specs.Tokens.{Lexeme, lexed}
use Rattle.owl_tokens.specs.Tables.{Table, looked_up}
use Rattle.owl_tokens.specs.Iris.{expanded, name_of}
use Rattle.owl_documents.specs.Terms.{named}
use Rattle.owl_documents.specs.Items.{Item, Axiom, declares, states}
use Rattle.owl_documents.specs.Documents.{Document, document_read}
use Rattle.owl_grammar.specs.Grammar.{IsDocument}
use Rattle.owl_reader.specs.declared.entities.Flaw.{Flaw}
use Rattle.owl_reader.specs.Refusals.{first_of, in_item}
use Rattle.owl_reader.specs.Statements.{Term, Entities, no_entities, entities_of, with_entity}
use Rattle.owl_reader.specs.Statements.{Vocabulary}
use Rattle.owl_reader.specs.Statements.{terms_said, statements, axioms_added}
use Rattle.owl_reader.specs.Statements.{all_declared}
use Rattle.owl_reader.specs.Reading.{Fault, too_long, bad_owl, unsupported, fault_of, line_of}
use Rattle.owl_reader.specs.Reading.{stop_line, no_vocabulary, most_bytes}

-- ---- statements

abbrev pub is_declaration : Item → Bool
is_declaration (declares kind e close) = true
is_declaration _ = false

abbrev pub is_axiom : Item → Bool
is_axiom (states a) = true
is_axiom _ = false

module _ (known : Table) where
  -- what the declarations say, and the entities behind them: each entity is declared where it first
  -- stands as the kind, by its name there
  pub data Declares : Entities → List Item → List Saying → Entities → Type 0 where
    none : (es : Entities) → Declares es [] [] es
    other : (es out : Entities) (item : Item) (rest : List Item) (ss : List Saying)
        → is_declaration item ≡ false → Declares es rest ss out → Declares es (item ∷ rest) ss out
    again : (es out : Entities) (k : Kind) (t : Lexeme) (close : ℕ) (iri name : List ℕ)
        (rest : List Item) (ss : List Saying) → expanded known t ≡ Some iri
        → looked_up iri (entities_of k es) ≡ Some name → Declares es rest ss out
        → Declares es (declares k (named t) close ∷ rest) ss out
    first : (es out : Entities) (k : Kind) (t : Lexeme) (close : ℕ) (iri : List ℕ)
        (rest : List Item) (ss : List Saying) → expanded known t ≡ Some iri
        → looked_up iri (entities_of k es) ≡ None
        → Declares (with_entity k iri (name_of t) es) rest ss out
        → Declares es (declares k (named t) close ∷ rest) (saying.declares k (name_of t) ∷ ss) out

  -- what the axioms say over these entities
  pub data States (es : Entities) : List Item → List Saying → Type 0 where
    none : States es [] []
    other : (item : Item) (rest : List Item) (ss : List Saying) → is_axiom item ≡ false
        → States es rest ss → States es (item ∷ rest) ss
    one : (a : Axiom) (rest : List Item) (ss : List Saying) (terms : List Term)
        → terms_said known es a ≡ Ok terms → States es rest ss
        → States es (states a ∷ rest) (statements a.form terms ++ ss)

-- the text is a document of which all is taken, and stands for these statements: first those of its
-- declarations, then those of its axioms, each in the text's order
pub record Stands (text : List ℕ) (sayings : List Saying) : Type 0 where
  pub document : Document
  pub is : IsDocument (lexed 0 0 text) document
  pub taken : first_of in_item document.items ≡ None
  pub entities : Entities
  pub declarations : List Saying
  pub declared : Declares document.known no_entities document.items declarations entities
  pub axioms : List Saying
  pub stated : States document.known entities document.items axioms
  pub all : declarations ++ axioms ≡ sayings

-- ---- the first fault

-- the text has so many bytes as it may, and is this document
pub record IsShortDocument (text : List ℕ) (d : Document) : Type 0 where
  pub short : length text ≤ most_bytes
  pub is : IsDocument (lexed 0 0 text) d

-- what is looked for in turn: the length, the grammar, what isn't taken, the declarations and the
-- axioms
pub data FirstFault (text : List ℕ) : ℕ → Fault → Type 0 where
  bytes : most_bytes < length text → FirstFault text 0 too_long
  grammar : length text ≤ most_bytes → ((d : Document) → ¬ IsDocument (lexed 0 0 text) d)
      → (stop : Option ℕ) → document_read (lexed 0 0 text) ≡ Err stop
      → FirstFault text (stop_line text stop) bad_owl
  outside : (d : Document) → IsShortDocument text d → (t : Lexeme)
      → first_of in_item d.items ≡ Some t
      → FirstFault text (line_of text t.start) (unsupported (take 64 t.text))
  declaration : (d : Document) → IsShortDocument text d → first_of in_item d.items ≡ None
      → (place : ℕ) (flaw : Flaw) → all_declared d.known no_vocabulary d.items ≡ Err (place, flaw)
      → FirstFault text (line_of text place) (fault_of flaw)
  statement : (d : Document) → IsShortDocument text d → first_of in_item d.items ≡ None
      → (v : Vocabulary) → all_declared d.known no_vocabulary d.items ≡ Ok v
      → (place : ℕ) (flaw : Flaw)
      → axioms_added d.known v.entities v.ontology d.items ≡ Err (place, flaw)
      → FirstFault text (line_of text place) (fault_of flaw)
