-- Statements that pass a limit, and where a document has them.
use Rattle.std.specs.Prelude.{◌≡◌, ◌≤◌, ℕ, true, false, List, [], ◌∷◌, ◌++◌, length, Some, None, Ok}
use Rattle.dl_syntax.specs.declared.names.Kind.{Kind}
use Rattle.dl_syntax.specs.Ontology.{Declared, names_of, is_declared, most_names, most_inclusions}
use Rattle.dl_syntax.specs.Ontology.{most_clashes, nothing_declared}
use Rattle.ontology_reader.specs.Sayings.{Saying, nothing, declares, includes, includes_qualified}
use Rattle.ontology_reader.specs.Sayings.{includes_roles, disjoint, disjoint_roles, has_no_form}
use Rattle.owl_tokens.specs.Tokens.{Lexeme}
use Rattle.owl_tokens.specs.Tables.{Table, looked_up}
use Rattle.owl_tokens.specs.Iris.{expanded, name_of}
use Rattle.owl_documents.specs.Terms.{named}
use Rattle.owl_documents.specs.Items.{Item, Axiom, states}
use Rattle.owl_documents.specs.Items as item
use Rattle.owl_documents.specs.Documents.{Document}
use Rattle.owl_reader.specs.Refusals.{first_of, in_item}
use Rattle.owl_reader.specs.Statements.{Term, Entities, no_entities, entities_of, is_usable}
use Rattle.owl_reader.specs.Statements.{Vocabulary, terms_said}
use Rattle.owl_reader.specs.Statements.{statements, all_added, axioms_added, all_declared}
use Rattle.owl_reader.specs.Reading.{line_of, no_vocabulary}
use Rattle.owl_reader.specs.Standing.{IsShortDocument, Declares, States}

-- there are already as many names of the kind, inclusions or clashes as an ontology may have
abbrev pub IsFull : Declared → Saying → Type 0
IsFull o nothing = ⊥
IsFull o (declares kind text) = most_names kind ≤ length (names_of kind o)
IsFull o (includes left right) = most_inclusions ≤ length o.inclusions
IsFull o (includes_qualified left role text) = most_inclusions ≤ length o.inclusions
IsFull o (includes_roles left right) = most_inclusions ≤ length o.inclusions
IsFull o (disjoint left right) = most_clashes ≤ length o.clashes
IsFull o (disjoint_roles left right) = most_clashes ≤ length o.clashes
IsFull o has_no_form = ⊥

-- the first statements are added, and there is no room for the next
pub record PassesLimit (o : Declared) (sayings : List Saying) : Type 0 where
  pub before : List Saying
  pub saying : Saying
  pub later : List Saying
  pub parts : sayings ≡ before ++ saying ∷ later
  pub now : Declared
  pub added : all_added o before ≡ Ok now
  pub full : IsFull now saying

-- an entity that isn't declared so before, with a name that the ontology may have and hasn't yet
pub record IsNew (known : Table) (v : Vocabulary) (kind : Kind) (t : Lexeme) : Type 0 where
  pub iri : List ℕ
  pub stands_for : expanded known t ≡ Some iri
  pub usable : is_usable (name_of t) ≡ true
  pub absent : looked_up iri (entities_of kind v.entities) ≡ None
  pub free : is_declared v.ontology (name_of t) ≡ false

-- all of the text is taken, nothing before the item is at fault, and what the item says passes a
-- limit; the line is that of its closing parenthesis
pub data HasTooMany (text : List ℕ) : ℕ → Type 0 where
  names : (d : Document) → IsShortDocument text d → first_of in_item d.items ≡ None
      → (before later : List Item) (kind : Kind) (t : Lexeme) (close : ℕ)
      → d.items ≡ before ++ item.declares kind (named t) close ∷ later → (v : Vocabulary)
      → all_declared d.known no_vocabulary before ≡ Ok v → IsNew d.known v kind t
      → IsFull v.ontology (declares kind (name_of t)) → HasTooMany text (line_of text close)
  axioms : (d : Document) → IsShortDocument text d → first_of in_item d.items ≡ None
      → (v : Vocabulary) → all_declared d.known no_vocabulary d.items ≡ Ok v
      → (before later : List Item) (a : Axiom) → d.items ≡ before ++ states a ∷ later
      → (o : Declared) → axioms_added d.known v.entities v.ontology before ≡ Ok o
      → (terms : List Term) → terms_said d.known v.entities a ≡ Ok terms
      → PassesLimit o (statements a.form terms) → HasTooMany text (line_of text a.close)

-- the statements that the document stands for before an item, and those of the item: first those of
-- all declarations, then those of the axioms; the line is that of its closing parenthesis
pub data StandsUpTo (text : List ℕ) : ℕ → List Saying → List Saying → Type 0 where
  names : (d : Document) → IsShortDocument text d → first_of in_item d.items ≡ None
      → (before later : List Item) (kind : Kind) (t : Lexeme) (close : ℕ)
      → d.items ≡ before ++ item.declares kind (named t) close ∷ later → (es : Entities)
      → (ds : List Saying) → Declares d.known no_entities before ds es
      → StandsUpTo text (line_of text close) ds (declares kind (name_of t) ∷ [])
  axioms : (d : Document) → IsShortDocument text d → first_of in_item d.items ≡ None
      → (es : Entities) (ds : List Saying) → Declares d.known no_entities d.items ds es
      → (before later : List Item) (a : Axiom) → d.items ≡ before ++ states a ∷ later
      → (ss : List Saying) → States d.known es before ss → (terms : List Term)
      → terms_said d.known es a ≡ Ok terms
      → StandsUpTo text (line_of text a.close) (ds ++ ss) (statements a.form terms)

-- the statements before an item are added, and those of the item pass a limit
pub record StandsForTooMany (text : List ℕ) (line : ℕ) : Type 0 where
  pub before : List Saying
  pub sayings : List Saying
  pub stands : StandsUpTo text line before sayings
  pub now : Declared
  pub added : all_added nothing_declared before ≡ Ok now
  pub passes : PassesLimit now sayings
