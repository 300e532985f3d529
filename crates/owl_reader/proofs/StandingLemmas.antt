-- A document says the statements that it stands for, and a text's fault is the first one.
use Rattle.std.proofs.Common.{◌≡◌, ◌≤◌, ◌<◌, ℕ, Bool, true, false, cond, List, [], ◌∷◌, ◌++◌}
use Rattle.std.proofs.Common.{length}
use Rattle.std.proofs.Common.{take, Option, Some, None, Result, Ok, Err, refl, sym, ap, subst, ◌∙◌}
use Rattle.std.proofs.Common.{arith, ◌⊎◌, inl, inr}
use Rattle.std.specs.Prelude.{nat_lt}
use Rattle.std.proofs.lemmas.Bool.Decides.{nat_tests}
use Rattle.dl_syntax.specs.declared.names.Kind.{Kind}
use Rattle.dl_syntax.specs.Ontology.{Declared, nothing_declared, is_declared}
use Rattle.ontology_reader.specs.declared.OntologyKind.{OntologyKind}
use Rattle.ontology_reader.specs.Sayings.{Saying}
use Rattle.ontology_reader.specs.Sayings as saying
use Rattle.ontology_reader.specs.Adding.{added}
use Rattle.owl_tokens.specs.Tokens.{Lexeme, lexed}
use Rattle.owl_tokens.specs.Tables.{Table, looked_up}
use Rattle.owl_tokens.specs.Iris.{expanded, name_of}
use Rattle.owl_documents.specs.Terms.{Read, named, refused}
use Rattle.owl_documents.specs.Items.{Item, silent, not_taken, declares, states}
use Rattle.owl_documents.specs.Documents.{Document, document_read}
use Rattle.owl_grammar.proofs.Documents.{document_written, document_is_read}
use Rattle.owl_reader.specs.declared.entities.Flaw.TheVariants as flaw
use Rattle.owl_reader.specs.Refusals.{first_of, in_item}
use Rattle.owl_reader.specs.Statements.{Said, ◌>>=◌, Entities, entities_of}
use Rattle.owl_reader.specs.Statements.{with_entity}
use Rattle.owl_reader.specs.Statements.{is_usable, Vocabulary, terms_said, statements, all_added}
use Rattle.owl_reader.specs.Statements.{within_limits, axiom_added, item_added, axioms_added}
use Rattle.owl_reader.specs.Statements.{newly_declared, again_declared, is_given, known_or_new}
use Rattle.owl_reader.specs.Statements.{iri_declared, item_declared, all_declared}
use Rattle.owl_reader.specs.Reading.{Fault, FaultAt, too_long, bad_owl, unsupported, fault_of}
use Rattle.owl_reader.specs.Reading.{line_of, stop_line, no_vocabulary, most_bytes, items_say}
use Rattle.owl_reader.specs.Reading.{with_lines, taken_says, read_says, text_says}
use Rattle.owl_reader.specs.Standing.{Declares, States, IsShortDocument, FirstFault}
use Rattle.owl_reader.specs.Laws.{SaysStatements, HasFirstFault}

bound : {A B : Type 0} (r : Said A) (f : A → Said B) (b : B) → (r >>= f) ≡ Ok b
    → (a : A) × (r ≡ Ok a) × (f a ≡ Ok b)
bound (Ok a) f b is = (a, refl, is)
bound (Err e) f b is = absurd cc

got : {A : Type 0} (p q : A) → (let said : Said A = Ok p in said ≡ Ok q) → p ≡ q
got p q is = cc

-- ---- statements, one after the other

added_next : (o mid : Declared) (s : Saying) (rest : List Saying) → added o s ≡ Ok mid
    → all_added o (s ∷ rest) ≡ all_added mid rest
unfolding all_added
added_next o mid s rest is =
    ap (λ (r : Result Declared OntologyKind). let out : Result Declared OntologyKind =
    elim r [ Ok next ↦ all_added next rest | Err kind ↦ Err kind ] in out) is

added_first : (o out : Declared) (s : Saying) (rest : List Saying)
    → all_added o (s ∷ rest) ≡ Ok out
    → (mid : Declared) × (added o s ≡ Ok mid) × (all_added mid rest ≡ Ok out)
unfolding all_added
added_first o out s rest is = go (added o s) refl is
  where
    go : (r : Result Declared OntologyKind) → added o s ≡ r
        → (let whole : Result Declared OntologyKind =
        elim r [ Ok next ↦ all_added next rest | Err kind ↦ Err kind ] in whole ≡ Ok out)
        → (mid : Declared) × (added o s ≡ Ok mid) × (all_added mid rest ≡ Ok out)
    go (Ok next) first e = (next, first, e)
    go (Err kind) first e = absurd cc

none_added : (o mid : Declared) → all_added o [] ≡ Ok mid → o ≡ mid
unfolding all_added
none_added o mid is = cc

both_added : (xs ys : List Saying) (o mid out : Declared) → all_added o xs ≡ Ok mid
    → all_added mid ys ≡ Ok out → all_added o (xs ++ ys) ≡ Ok out
both_added [] ys o mid out first later =
    subst (λ (x : Declared). all_added x ys ≡ Ok out) (sym (none_added o mid first)) later
both_added (x ∷ xs) ys o mid out first later =
    let f = added_first o mid x xs first in
    added_next o f.0 x (xs ++ ys) f.1 ∙ both_added xs ys f.0 mid out f.2 later

nothing_added : (o : Declared) → all_added o [] ≡ Ok o
unfolding all_added
nothing_added o = refl

within : (close : ℕ) (r : Result Declared OntologyKind) (o : Declared)
    → within_limits close r ≡ Ok o → r ≡ Ok o
within close (Ok x) o is = let same : x ≡ o = cc in ap Ok same
within close (Err kind) o is = absurd cc

-- ---- declarations

-- what an item's declaration adds
record Adds (known : Table) (v w : Vocabulary) (item : Item) : Type 0 where
  sayings : List Saying
  declared : (rest : List Item) (ss : List Saying) (out : Entities)
      → Declares known w.entities rest ss out
      → Declares known v.entities (item ∷ rest) (sayings ++ ss) out
  is_added : all_added v.ontology sayings ≡ Ok w.ontology

module _ (known : Table) (v w : Vocabulary) (k : Kind) (t : Lexeme) (close : ℕ) where
  newly : (iri : List ℕ) → expanded known t ≡ Some iri → looked_up iri (entities_of k v.entities) ≡
      None
      → newly_declared v k t iri close ≡ Ok w → Adds known v w (declares k (named t) close)
  newly iri whole absent is = go (is_declared v.ontology (name_of t)) is
    where
      go : (b : Bool) → cond {A = Said Vocabulary} b (Err (t.start, flaw.NameTwice))
          (within_limits close (added v.ontology (saying.declares k (name_of t))) >>= (λ o.
          Ok (record { entities = with_entity k iri (name_of t) v.entities; ontology = o }))) ≡ Ok w
          → Adds known v w (declares k (named t) close)
      go true e = absurd cc
      go false e =
          let b = bound (within_limits close (added v.ontology (saying.declares k (name_of t)))) _
          w e in
          let a = within close (added v.ontology (saying.declares k (name_of t))) b.0 b.1 in
          let made : Vocabulary =
          record { entities = with_entity k iri (name_of t) v.entities; ontology = b.0 } in
          let same : made ≡ w = got made w b.2 in
          subst (λ (x : Vocabulary). Adds known v x (declares k (named t) close)) same (record {
            sayings = saying.declares k (name_of t) ∷ [];
            declared = λ rest ss out d.
                Declares.first v.entities out k t close iri rest ss whole absent d;
            is_added = added_next v.ontology b.0 (saying.declares k (name_of t)) [] a
                ∙ nothing_added b.0;
          })

  again : (iri name : List ℕ) → expanded known t ≡ Some iri
      → looked_up iri (entities_of k v.entities) ≡ Some name → again_declared v t name ≡ Ok w
      → Adds known v w (declares k (named t) close)
  again iri name whole there is = go (is_given v t name) is
    where
      go : (b : Bool) → cond {A = Said Vocabulary} b (Err (t.start, flaw.NameTwice)) (Ok v) ≡ Ok w
          → Adds known v w (declares k (named t) close)
      go true e = absurd cc
      go false e =
          subst (λ (x : Vocabulary). Adds known v x (declares k (named t) close)) (got v w e)
          (record {
            sayings = [];
            declared = λ rest ss out d.
                Declares.again v.entities out k t close iri name rest ss whole there d;
            is_added = nothing_added v.ontology;
          })

  by_name : (found : Option (List ℕ)) (iri : List ℕ) → expanded known t ≡ Some iri
      → looked_up iri (entities_of k v.entities) ≡ found
      → known_or_new v k t iri close found ≡ Ok w → Adds known v w (declares k (named t) close)
  by_name None iri whole is e = newly iri whole is e
  by_name (Some name) iri whole is e = again iri name whole is e

  by_iri : (iri : Option (List ℕ)) → expanded known t ≡ iri → iri_declared v k t close iri ≡ Ok w
      → Adds known v w (declares k (named t) close)
  by_iri None whole is = absurd cc
  by_iri (Some iri) whole is = go (is_usable (name_of t)) is
    where
      go : (b : Bool) → cond {A = Said Vocabulary} b (known_or_new v k t iri close
          (looked_up iri (entities_of k v.entities))) (Err (t.start, flaw.BadName)) ≡ Ok w
          → Adds known v w (declares k (named t) close)
      go true e = by_name (looked_up iri (entities_of k v.entities)) iri whole refl e
      go false e = absurd cc

no_declaration : (known : Table) (v w : Vocabulary) (item : Item) → v ≡ w
    → ((rest : List Item) (ss : List Saying) (out : Entities)
    → Declares known v.entities rest ss out
    → Declares known v.entities (item ∷ rest) ss out) → Adds known v w item
no_declaration known v w item same more =
    subst (λ (x : Vocabulary). Adds known v x item) same (record {
      sayings = [];
      declared = more;
      is_added = nothing_added v.ontology;
    })

item_adds : (known : Table) (v w : Vocabulary) (item : Item) → item_declared known v item ≡ Ok w
    → Adds known v w item
item_adds known v w (declares k (named t) close) is = by_iri known v w k t close (expanded known t)
    refl is
item_adds known v w (declares k (refused t) close) is = absurd cc
item_adds known v w silent is = no_declaration known v w silent (got v w is) (λ rest ss out d.
    Declares.other v.entities out silent rest ss refl d)
item_adds known v w (not_taken t) is = no_declaration known v w (not_taken t) (got v w is)
    (λ rest ss out d. Declares.other v.entities out (not_taken t) rest ss refl d)
item_adds known v w (states a) is = no_declaration known v w (states a) (got v w is)
    (λ rest ss out d. Declares.other v.entities out (states a) rest ss refl d)

declared_stand : (known : Table) (items : List Item) (v w : Vocabulary)
    → all_declared known v items ≡ Ok w
    → (ss : List Saying) × Declares known v.entities items ss w.entities
    × (all_added v.ontology ss ≡ Ok w.ontology)
unfolding all_declared
declared_stand known [] v w is =
    let same : v ≡ w = got v w is in
    subst (λ (x : Vocabulary). (ss : List Saying) × Declares known v.entities [] ss x.entities
    × (all_added v.ontology ss ≡ Ok x.ontology)) same
    ([], Declares.none v.entities, nothing_added v.ontology)
declared_stand known (item ∷ rest) v w is =
    let b = bound (item_declared known v item) _ w is in
    let one = item_adds known v b.0 item b.1 in
    let later = declared_stand known rest b.0 w b.2 in (
      one.sayings ++ later.0,
      one.declared rest later.0 w.entities later.1,
      both_added one.sayings later.0 v.ontology b.0.ontology w.ontology one.is_added later.2,
    )

-- ---- axioms

axioms_stand : (known : Table) (es : Entities) (items : List Item) (o out : Declared)
    → axioms_added known es o items ≡ Ok out
    → (ss : List Saying) × States known es items ss × (all_added o ss ≡ Ok out)
unfolding axioms_added axiom_added
axioms_stand known es [] o out is =
    let same : o ≡ out = got o out is in
    ([], States.none, nothing_added o ∙ ap Ok same)
axioms_stand known es (states a ∷ rest) o out is =
    let b = bound (item_added known es o (states a)) _ out is in
    let terms = bound (terms_said known es a) _ b.0 b.1 in
    let said = within a.close (all_added o (statements a.form terms.0)) b.0 terms.2 in
    let later = axioms_stand known es rest b.0 out b.2 in (
      statements a.form terms.0 ++ later.0,
      States.one a rest later.0 terms.0 terms.1 later.1,
      both_added (statements a.form terms.0) later.0 o b.0 out said later.2,
    )
axioms_stand known es (silent ∷ rest) o out is =
    let later = axioms_stand known es rest o out is in
    (later.0, States.other silent rest later.0 refl later.1, later.2)
axioms_stand known es (not_taken t ∷ rest) o out is =
    let later = axioms_stand known es rest o out is in
    (later.0, States.other (not_taken t) rest later.0 refl later.1, later.2)
axioms_stand known es (declares k e close ∷ rest) o out is =
    let later = axioms_stand known es rest o out is in
    (later.0, States.other (declares k e close) rest later.0 refl later.1, later.2)

-- ---- texts

-- what is said of a text that isn't too long
short_says : (text : List ℕ) → length text ≤ most_bytes
    → text_says text ≡ read_says text (document_read (lexed 0 0 text))
unfolding text_says
short_says text short =
    let test : nat_lt most_bytes (length text) ≡ false = grind (arith, nat_tests) in
    rw test refl

-- a text that is too long is at fault at line 0
pub long_says : (text : List ℕ) → most_bytes < length text → text_says text ≡ Err (0, too_long)
unfolding text_says
long_says text long =
    let test : nat_lt most_bytes (length text) ≡ true = grind (arith, nat_tests) in
    rw test refl

short_or_long : (text : List ℕ) → (length text ≤ most_bytes) ⊎ (most_bytes < length text)
short_or_long text = grind arith

said_lines : (text : List ℕ) (said : Said Declared) (o : Declared) → with_lines text said ≡ Ok o
    → said ≡ Ok o
said_lines text (Ok x) o is = let same : x ≡ o = cc in ap Ok same
said_lines text (Err e) o is = absurd cc

-- the document of a text that says an ontology
record SaidDocument (text : List ℕ) (o : Declared) : Type 0 where
  document : Document
  is : document_read (lexed 0 0 text) ≡ Ok document
  taken : first_of in_item document.items ≡ None
  said : items_say document.known no_vocabulary document.items ≡ Ok o

taken_document : (text : List ℕ) (d : Document) (found : Option Lexeme) (o : Declared)
    → document_read (lexed 0 0 text) ≡ Ok d → first_of in_item d.items ≡ found
    → taken_says text d found ≡ Ok o → SaidDocument text o
taken_document text d None o is taken e = record {
  document = d;
  is = is;
  taken = taken;
  said = said_lines text (items_say d.known no_vocabulary d.items) o e;
}
taken_document text d (Some t) o is taken e = absurd cc

read_document : (text : List ℕ) (read : Read Document) (o : Declared)
    → document_read (lexed 0 0 text) ≡ read → read_says text read ≡ Ok o → SaidDocument text o
read_document text (Ok d) o is e = taken_document text d (first_of in_item d.items) o is refl e
read_document text (Err stop) o is e = absurd cc

no_error : (r : Result Declared FaultAt) (line : ℕ) (f : Fault) (o : Declared) → r ≡ Err (line, f)
    → r ≡ Ok o → ⊥
no_error (Ok x) line f o err ok = absurd cc
no_error (Err e) line f o err ok = absurd cc

said_document : (text : List ℕ) (o : Declared) → text_says text ≡ Ok o → SaidDocument text o
said_document text o is = elim (short_or_long text) [
  | inl short ↦ read_document text (document_read (lexed 0 0 text)) o refl (sym (short_says text
      short) ∙ is)
  | inr long ↦ absurd (no_error (text_says text) 0 too_long o (long_says text long) is)
]

pub says_statements : SaysStatements
unfolding items_say
says_statements text o is =
    let s = said_document text o is in
    let d = s.document in
    let v = bound (all_declared d.known no_vocabulary d.items) _ o s.said in
    let ds = declared_stand d.known d.items no_vocabulary v.0 v.1 in
    let ss = axioms_stand d.known v.0.entities d.items v.0.ontology o v.2 in (
      ds.0 ++ ss.0,
      record {
        document = d;
        is = document_written (lexed 0 0 text) d s.is;
        taken = s.taken;
        entities = v.0.entities;
        declarations = ds.0;
        declared = ds.1;
        axioms = ss.0;
        stated = ss.1;
        all = refl;
      },
      both_added ds.0 ss.0 nothing_declared v.0.ontology o ds.2 ss.2,
    )

-- ---- the first fault

same_fault : (text : List ℕ) (m n : ℕ) (f g : Fault)
    → (let r : Result Declared FaultAt = Err (m, f) in r ≡ Err (n, g)) → FirstFault text m f
    → FirstFault text n g
same_fault text m n f g is first =
    let pairs = paired is in
    subst (λ (x : Fault). FirstFault text n x) (ap (λ (p : FaultAt). p.1) pairs)
    (subst (λ (x : ℕ). FirstFault text x f) (ap (λ (p : FaultAt). p.0) pairs) first)
  where
    paired : (let r : Result Declared FaultAt = Err (m, f) in r ≡ Err (n, g))
        → (let p : FaultAt = (m, f) in p ≡ (n, g))
    paired e = cc

no_document : (r : Read Document) (stop : Option ℕ) (d : Document) → r ≡ Err stop → r ≡ Ok d → ⊥
no_document (Ok x) stop d err ok = absurd cc
no_document (Err e) stop d err ok = absurd cc

module _ (text : List ℕ) (line : ℕ) (fault : Fault) where
  flawed : (d : Document) → IsShortDocument text d → first_of in_item d.items ≡ None
      → (said : Said Vocabulary) → all_declared d.known no_vocabulary d.items ≡ said
      → with_lines text (said >>= (λ w. axioms_added d.known w.entities w.ontology d.items))
      ≡ Err (line, fault) → FirstFault text line fault
  flawed d short taken (Err (place, f)) is e =
      same_fault text (line_of text place) line (fault_of f) fault e
      (FirstFault.declaration d short taken place f is)
  flawed d short taken (Ok v) is e =
      go (axioms_added d.known v.entities v.ontology d.items) refl e
    where
      go : (said : Said Declared) → axioms_added d.known v.entities v.ontology d.items ≡ said
          → with_lines text said ≡ Err (line, fault) → FirstFault text line fault
      go (Ok o) also e = absurd cc
      go (Err (place, f)) also e =
          same_fault text (line_of text place) line (fault_of f) fault e
          (FirstFault.statement d short taken v is place f also)

  in_document : (d : Document) → IsShortDocument text d → (found : Option Lexeme)
      → first_of in_item d.items ≡ found → taken_says text d found ≡ Err (line, fault)
      → FirstFault text line fault
  unfolding items_say
  in_document d short None is e =
      flawed d short is (all_declared d.known no_vocabulary d.items) refl e
  in_document d short (Some t) is e =
      same_fault text (line_of text t.start) line (unsupported (take 64 t.text)) fault e
      (FirstFault.outside d short t is)

  in_read : length text ≤ most_bytes → (read : Read Document)
      → document_read (lexed 0 0 text) ≡ read → read_says text read ≡ Err (line, fault)
      → FirstFault text line fault
  in_read short (Ok d) is e =
      in_document d (record { short = short; is = document_written (lexed 0 0 text) d is })
      (first_of in_item d.items) refl e
  in_read short (Err stop) is e =
      same_fault text (stop_line text stop) line bad_owl fault e
      (FirstFault.grammar short (λ d doc. no_document (document_read (lexed 0 0 text)) stop d is
      (document_is_read (lexed 0 0 text) d doc)) stop is)

  found_first : text_says text ≡ Err (line, fault) → FirstFault text line fault
  found_first is = elim (short_or_long text) [
    | inl short ↦ in_read short (document_read (lexed 0 0 text)) refl (sym (short_says text short)
        ∙ is)
    | inr long ↦ same_fault text 0 line too_long fault (sym (long_says text long) ∙ is)
        (FirstFault.bytes long)
  ]

of_document : (text : List ℕ) (d : Document) → IsShortDocument text d
    → text_says text ≡ taken_says text d (first_of in_item d.items)
of_document text d is =
    short_says text is.short ∙ ap (read_says text) (document_is_read (lexed 0 0 text) d is.is)

first_found : (text : List ℕ) (line : ℕ) (fault : Fault) → FirstFault text line fault
    → text_says text ≡ Err (line, fault)
unfolding items_say
first_found text line fault (FirstFault.bytes long) = long_says text long
first_found text line fault (FirstFault.grammar short none stop is) =
    short_says text short ∙ ap (read_says text) is
first_found text line fault (FirstFault.outside d is t found) =
    of_document text d is ∙ ap (taken_says text d) found
first_found text line fault (FirstFault.declaration d is taken place f declared) =
    of_document text d is ∙ ap (taken_says text d) taken
    ∙ ap (λ (said : Said Vocabulary). with_lines text (said >>= (λ w.
    axioms_added d.known w.entities w.ontology d.items))) declared
first_found text line fault (FirstFault.statement d is taken v declared place f stated) =
    of_document text d is ∙ ap (taken_says text d) taken
    ∙ ap (λ (said : Said Vocabulary). with_lines text (said >>= (λ w.
    axioms_added d.known w.entities w.ontology d.items))) declared
    ∙ ap (with_lines text) stated

pub has_first_fault : HasFirstFault
has_first_fault text line fault = (found_first text line fault, first_found text line fault)
