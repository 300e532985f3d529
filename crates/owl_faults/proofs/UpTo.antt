-- What a document stands for up to an item.
use Rattle.std.proofs.Common.{◌≡◌, ℕ, Bool, true, false, List, [], ◌∷◌, ◌++◌, Option, Some}
use Rattle.std.proofs.Common.{None, Ok, refl, ap, subst, ◌∙◌}
use Rattle.dl_syntax.specs.declared.names.Kind.{Kind}
use Rattle.dl_syntax.specs.Ontology.{Declared, nothing_declared, is_declared}
use Rattle.ontology_reader.specs.Sayings.{Saying}
use Rattle.ontology_reader.specs.Sayings as saying
use Rattle.ontology_reader.specs.Adding.{added}
use Rattle.owl_tokens.specs.Tokens.{Lexeme}
use Rattle.owl_tokens.specs.Tables.{Table, looked_up}
use Rattle.owl_tokens.specs.Iris.{expanded, name_of}
use Rattle.owl_documents.specs.Terms.{named, refused}
use Rattle.owl_documents.specs.Items.{Item, silent, not_taken, declares, states}
use Rattle.owl_reader.specs.Statements.{Entities, entities_of, with_entity, is_usable}
use Rattle.owl_reader.specs.Statements.{Vocabulary, terms_said, statements, all_added}
use Rattle.owl_reader.specs.Statements.{within_limits, axiom_added, axioms_added, newly_declared}
use Rattle.owl_reader.specs.Statements.{again_declared, is_given, known_or_new, iri_declared}
use Rattle.owl_reader.specs.Statements.{item_declared, all_declared}
use Rattle.owl_reader.specs.Reading.{no_vocabulary}
use Rattle.owl_reader.specs.Standing.{Declares, States}
use Rattle.owl_faults.specs.Limits.{HasTooMany, StandsUpTo, StandsForTooMany}
use Rattle.owl_faults.specs.Laws.{LimitsAlone}
use Rattle.owl_faults.proofs.Splits.{bound_ok}
use Rattle.owl_faults.proofs.Fitting.{added_before, added_next}
use Rattle.owl_faults.proofs.TooMany.{within_ok, got, fault_of_limits}

nothing_added : (o : Declared) → all_added o [] ≡ Ok o
unfolding all_added
nothing_added o = refl

-- what an item's declaration adds
record Adds (known : Table) (v w : Vocabulary) (item : Item) : Type 0 where
  sayings : List Saying
  declared : (rest : List Item) (ss : List Saying) (out : Entities)
      → Declares known w.entities rest ss out
      → Declares known v.entities (item ∷ rest) (sayings ++ ss) out
  is_added : all_added v.ontology sayings ≡ Ok w.ontology

module _ (known : Table) (v w : Vocabulary) (k : Kind) (t : Lexeme) (close : ℕ) where
  abbrev Declaring : Type 0
  Declaring = Adds known v w (declares k (named t) close)

  newly : (iri : List ℕ) → expanded known t ≡ Some iri
      → looked_up iri (entities_of k v.entities) ≡ None
      → newly_declared v k t iri close ≡ Ok w → Declaring
  newly iri whole absent = go (is_declared v.ontology (name_of t)) refl
    where
      made : (o : Declared) → added v.ontology (saying.declares k (name_of t)) ≡ Ok o
          → (let x : Vocabulary = record {
            entities = with_entity k iri (name_of t) v.entities;
            ontology = o;
          } in x ≡ w) → Declaring
      made o is same =
          subst (λ (x : Vocabulary). Adds known v x (declares k (named t) close)) same (record {
            sayings = saying.declares k (name_of t) ∷ [];
            declared = λ rest ss out d.
                Declares.first v.entities out k t close iri rest ss whole absent d;
            is_added = added_next v.ontology o (saying.declares k (name_of t)) [] is
                ∙ nothing_added o;
          })

      go : (b : Bool) → is_declared v.ontology (name_of t) ≡ b
          → newly_declared v k t iri close ≡ Ok w → Declaring
      go true is = rw is (λ e. absurd cc)
      go false is = rw is (λ e.
          let b = bound_ok (within_limits close (added v.ontology
          (saying.declares k (name_of t)))) _ w e in
          made b.0 (within_ok close (added v.ontology (saying.declares k (name_of t))) b.0 b.1)
          (got _ w b.2))

  again : (iri name : List ℕ) → expanded known t ≡ Some iri
      → looked_up iri (entities_of k v.entities) ≡ Some name → again_declared v t name ≡ Ok w
      → Declaring
  again iri name whole there = go (is_given v t name) refl
    where
      go : (b : Bool) → is_given v t name ≡ b → again_declared v t name ≡ Ok w → Declaring
      go true is = rw is (λ e. absurd cc)
      go false is = rw is (λ e.
          subst (λ (x : Vocabulary). Adds known v x (declares k (named t) close)) (got v w e)
          (record {
            sayings = [];
            declared = λ rest ss out d.
                Declares.again v.entities out k t close iri name rest ss whole there d;
            is_added = nothing_added v.ontology;
          }))

  by_name : (found : Option (List ℕ)) (iri : List ℕ) → expanded known t ≡ Some iri
      → looked_up iri (entities_of k v.entities) ≡ found
      → known_or_new v k t iri close found ≡ Ok w → Declaring
  by_name None iri whole is e = newly iri whole is e
  by_name (Some name) iri whole is e = again iri name whole is e

  by_iri : (iri : Option (List ℕ)) → expanded known t ≡ iri → iri_declared v k t close iri ≡ Ok w
      → Declaring
  by_iri None whole is = absurd cc
  by_iri (Some iri) whole is = go (is_usable (name_of t)) refl is
    where
      go : (b : Bool) → is_usable (name_of t) ≡ b → iri_declared v k t close (Some iri) ≡ Ok w
          → Declaring
      go true is =
          rw is (λ e. by_name (looked_up iri (entities_of k v.entities)) iri whole refl e)
      go false is = rw is (λ e. absurd cc)

no_declaration : (known : Table) (v w : Vocabulary) (item : Item) → v ≡ w
    → ((rest : List Item) (ss : List Saying) (out : Entities)
    → Declares known v.entities rest ss out
    → Declares known v.entities (item ∷ rest) ss out) → Adds known v w item
no_declaration known v w item same more =
    subst (λ (x : Vocabulary). Adds known v x item) same (record {
      sayings = [];
      declared = more;
      is_added = nothing_added v.ontology;
    })

item_adds : (known : Table) (v w : Vocabulary) (item : Item) → item_declared known v item ≡ Ok w
    → Adds known v w item
item_adds known v w (declares k (named t) close) is =
    by_iri known v w k t close (expanded known t) refl is
item_adds known v w (declares k (refused t) close) is = absurd cc
item_adds known v w silent is = no_declaration known v w silent (got v w is) (λ rest ss out d.
    Declares.other v.entities out silent rest ss refl d)
item_adds known v w (not_taken t) is = no_declaration known v w (not_taken t) (got v w is)
    (λ rest ss out d. Declares.other v.entities out (not_taken t) rest ss refl d)
item_adds known v w (states a) is = no_declaration known v w (states a) (got v w is)
    (λ rest ss out d. Declares.other v.entities out (states a) rest ss refl d)

declared_stand : (known : Table) (items : List Item) (v w : Vocabulary)
    → all_declared known v items ≡ Ok w
    → (ss : List Saying) × Declares known v.entities items ss w.entities
    × (all_added v.ontology ss ≡ Ok w.ontology)
unfolding all_declared
declared_stand known [] v w is =
    subst (λ (x : Vocabulary). (ss : List Saying) × Declares known v.entities [] ss x.entities
    × (all_added v.ontology ss ≡ Ok x.ontology)) (got v w is)
    ([], Declares.none v.entities, nothing_added v.ontology)
declared_stand known (item ∷ rest) v w is =
    let b = bound_ok (item_declared known v item) _ w is in
    let one = item_adds known v b.0 item b.1 in
    let later = declared_stand known rest b.0 w b.2 in (
      one.sayings ++ later.0,
      one.declared rest later.0 w.entities later.1,
      added_before one.sayings later.0 v.ontology b.0.ontology one.is_added ∙ later.2,
    )

axioms_stand : (known : Table) (es : Entities) (items : List Item) (o out : Declared)
    → axioms_added known es o items ≡ Ok out
    → (ss : List Saying) × States known es items ss × (all_added o ss ≡ Ok out)
unfolding axioms_added axiom_added
axioms_stand known es [] o out is =
    ([], States.none, nothing_added o ∙ ap (λ (x : Declared). Ok x) (got o out is))
axioms_stand known es (states a ∷ rest) o out is =
    let b = bound_ok (axiom_added known es o a) _ out is in
    let terms = bound_ok (terms_said known es a) _ b.0 b.1 in
    let said = within_ok a.close (all_added o (statements a.form terms.0)) b.0 terms.2 in
    let later = axioms_stand known es rest b.0 out b.2 in (
      statements a.form terms.0 ++ later.0,
      States.one a rest later.0 terms.0 terms.1 later.1,
      added_before (statements a.form terms.0) later.0 o b.0 said ∙ later.2,
    )
axioms_stand known es (silent ∷ rest) o out is =
    let later = axioms_stand known es rest o out is in
    (later.0, States.other silent rest later.0 refl later.1, later.2)
axioms_stand known es (not_taken t ∷ rest) o out is =
    let later = axioms_stand known es rest o out is in
    (later.0, States.other (not_taken t) rest later.0 refl later.1, later.2)
axioms_stand known es (declares k e close ∷ rest) o out is =
    let later = axioms_stand known es rest o out is in
    (later.0, States.other (declares k e close) rest later.0 refl later.1, later.2)

stands : (text : List ℕ) (line : ℕ) → HasTooMany text line → StandsForTooMany text line
stands text line (HasTooMany.names d short taken before later k t close parts v declared new full) =
    let ds = declared_stand d.known before no_vocabulary v declared in
    record {
      before = ds.0;
      sayings = saying.declares k (name_of t) ∷ [];
      stands = StandsUpTo.names d short taken before later k t close parts v.entities ds.0 ds.1;
      now = v.ontology;
      added = ds.2;
      passes = record {
        before = [];
        saying = saying.declares k (name_of t);
        later = [];
        parts = refl;
        now = v.ontology;
        added = nothing_added v.ontology;
        full = full;
      };
    }
stands text line (HasTooMany.axioms d short taken v declared before later a parts o stated terms
    said passes) =
    let ds = declared_stand d.known d.items no_vocabulary v declared in
    let ss = axioms_stand d.known v.entities before v.ontology o stated in
    record {
      before = ds.0 ++ ss.0;
      sayings = statements a.form terms;
      stands = StandsUpTo.axioms d short taken v.entities ds.0 ds.1 before later a parts ss.0 ss.1
          terms said;
      now = o;
      added = added_before ds.0 ss.0 nothing_declared v.ontology ds.2 ∙ ss.2;
      passes = passes;
    }

pub limits_alone : LimitsAlone
limits_alone text line is = stands text line ((fault_of_limits text line).0 is)
