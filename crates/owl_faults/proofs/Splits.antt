-- The item at which a document is at fault, and what is declared before it.
use Rattle.std.proofs.Common.{◌≡◌, ◌≤◌, ℕ, Bool, true, false, List, []}
use Rattle.std.proofs.Common.{◌∷◌, ◌++◌, length, Option, Some, None, Result, Ok, Err, refl, ap}
use Rattle.std.proofs.Common.{◌∙◌, ◌⊎◌, inl, inr, arith}
use Rattle.dl_syntax.specs.declared.names.Kind.{Kind}
use Rattle.dl_syntax.specs.declared.names.Kind.TheVariants as as_kind
use Rattle.dl_syntax.specs.Ontology.{Declared, is_declared, names_of, most_names, with_name}
use Rattle.ontology_reader.specs.Sayings as saying
use Rattle.ontology_reader.specs.Adding.{added, if_fewer}
use Rattle.ontology_reader.specs.declared.OntologyKind.{OntologyKind}
use Rattle.std.specs.Prelude.{nat_lt}
use Rattle.std.proofs.lemmas.Bool.Decides.{nat_tests}
use Rattle.owl_tokens.specs.Tokens.{Lexeme}
use Rattle.owl_tokens.specs.Tables.{Table, looked_up}
use Rattle.owl_tokens.specs.Iris.{expanded, name_of}
use Rattle.owl_documents.specs.Terms.{named, refused, Role, Class, everything, only, some_of}
use Rattle.owl_documents.specs.Terms.{some_in}
use Rattle.owl_documents.specs.Terms as term
use Rattle.owl_documents.specs.Items.{Item, Axiom, silent, not_taken, declares, states}
use Rattle.owl_reader.specs.Statements.{Said, ◌>>=◌, Entities, entities_of, is_usable}
use Rattle.owl_reader.specs.Statements.{Term, role_said, role_term, class_term, all_said}
use Rattle.owl_reader.specs.Statements.{terms_said, Vocabulary, all_added}
use Rattle.owl_reader.specs.Statements.{statements, within_limits, axiom_added, item_added}
use Rattle.owl_reader.specs.Statements.{axioms_added, newly_declared, again_declared, is_given}
use Rattle.owl_reader.specs.Statements.{known_or_new, iri_declared}
use Rattle.owl_reader.specs.Statements.{item_declared, all_declared, iri_resolved, resolved}
use Rattle.owl_reader.specs.Statements.{name_or_flaw, is_entity}
use Rattle.owl_reader.specs.Reading.{too_many, fault_of}
use Rattle.owl_faults.specs.Limits.{IsFull, IsNew}

pub bound_ok : {A B : Type 0} (r : Said A) (f : A → Said B) (b : B) → (r >>= f) ≡ Ok b
    → (a : A) × (r ≡ Ok a) × (f a ≡ Ok b)
bound_ok (Ok a) f b is = (a, refl, is)
bound_ok (Err e) f b is = absurd cc

pub then_ok : {A B : Type 0} (r : Said A) (f : A → Said B) (a : A) → r ≡ Ok a → (r >>= f) ≡ f a
then_ok (Ok x) f a is = let same : x ≡ a = cc in ap f same
then_ok (Err e) f a is = absurd cc

-- the fault is that of a limit, at this place
abbrev pub PassesAt : {X : Type 0} → Said X → ℕ → Type 0
PassesAt (Ok x) place = ⊥
PassesAt (Err e) place = (e.0 ≡ place) × (fault_of e.1 ≡ too_many)

bound_err : {A B : Type 0} (r : Said A) (f : A → Said B) (place : ℕ) → PassesAt (r >>= f) place
    → PassesAt r place ⊎ ((a : A) × (r ≡ Ok a) × PassesAt (f a) place)
bound_err (Ok a) f place h = inr (a, refl, h)
bound_err (Err e) f place h = inl h

-- ---- terms never pass a limit

name_never : (t : Lexeme) (found : Option (List ℕ)) (place : ℕ)
    → PassesAt (name_or_flaw t found) place → ⊥
name_never t None place h = let e = h.1 in absurd cc
name_never t (Some name) place h = absurd h

iri_never : (es : Entities) (kind : Kind) (t : Lexeme) (iri : Option (List ℕ)) (place : ℕ)
    → PassesAt (iri_resolved es kind t iri) place → ⊥
iri_never es kind t None place = λ h. let e = h.1 in absurd cc
iri_never es kind t (Some iri) place = go (is_entity es iri) (is_usable (name_of t)) refl refl
  where
    go : (b c : Bool) → is_entity es iri ≡ b → is_usable (name_of t) ≡ c
        → PassesAt (iri_resolved es kind t (Some iri)) place → ⊥
    go true true is usable =
        rw is (rw usable (λ h. name_never t (looked_up iri (entities_of kind es)) place h))
    go true false is usable = rw is (rw usable (λ h. let e = h.1 in absurd cc))
    go false c is usable = rw is (λ h. let e = h.1 in absurd cc)

resolved_never : (known : Table) (es : Entities) (kind : Kind) (e : term.Entity) (place : ℕ)
    → PassesAt (resolved known es kind e) place → ⊥
resolved_never known es kind (named t) place h = iri_never es kind t (expanded known t) place h
resolved_never known es kind (refused t) place h = let e = h.1 in absurd cc

role_never : (known : Table) (es : Entities) (r : Role) (place : ℕ)
    → PassesAt (role_said known es r) place → ⊥
role_never known es r place h =
    elim (bound_err (resolved known es as_kind.Role r.entity) _ place h) [
      | inl passes ↦ resolved_never known es as_kind.Role r.entity place passes
      | inr said ↦ said.2
    ]

role_term_never : (known : Table) (es : Entities) (place : ℕ) (r : Role)
    → PassesAt (role_term known es r) place → ⊥
role_term_never known es place r h = elim (bound_err (role_said known es r) _ place h) [
  | inl passes ↦ role_never known es r place passes
  | inr said ↦ said.2
]

class_term_never : (known : Table) (es : Entities) (place : ℕ) (c : Class)
    → PassesAt (class_term known es c) place → ⊥
class_term_never known es place (everything t) h = absurd h
class_term_never known es place (only e) h =
    elim (bound_err (resolved known es as_kind.Concept e) _ place h) [
      | inl passes ↦ resolved_never known es as_kind.Concept e place passes
      | inr said ↦ said.2
    ]
class_term_never known es place (some_of r) h = elim (bound_err (role_said known es r) _ place h) [
  | inl passes ↦ role_never known es r place passes
  | inr said ↦ said.2
]
class_term_never known es place (some_in t r e) h =
    elim (bound_err (role_said known es r) _ place h) [
      | inl passes ↦ role_never known es r place passes
      | inr said ↦ elim (bound_err (resolved known es as_kind.Concept e) _ place said.2) [
        | inl passes ↦ resolved_never known es as_kind.Concept e place passes
        | inr name ↦ name.2
      ]
    ]

all_never : {X : Type 0} (one : X → Said Term) (place : ℕ)
    → ((x : X) → PassesAt (one x) place → ⊥) → (xs : List X) → PassesAt (all_said one xs) place → ⊥
unfolding all_said
all_never one place never [] h = absurd h
all_never one place never (x ∷ xs) h = elim (bound_err (one x) _ place h) [
  | inl passes ↦ never x passes
  | inr first ↦ elim (bound_err (all_said one xs) _ place first.2) [
    | inl passes ↦ all_never one place never xs passes
    | inr later ↦ later.2
  ]
]

pub terms_never : (known : Table) (es : Entities) (a : Axiom) (place : ℕ)
    → PassesAt (terms_said known es a) place → ⊥
unfolding terms_said
terms_never known es a place h =
    elim (bound_err (all_said (role_term known es) a.roles) _ place h) [
      | inl passes ↦ all_never (role_term known es) place (role_term_never known es place) a.roles
          passes
      | inr roles ↦ elim (bound_err (all_said (class_term known es) a.classes) _ place roles.2) [
        | inl passes ↦ all_never (class_term known es) place (class_term_never known es place)
            a.classes passes
        | inr classes ↦ classes.2
      ]
    ]

-- ---- what passes a limit

within_passes : (close place : ℕ) (r : Result Declared OntologyKind)
    → PassesAt (within_limits close r) place
    → (kind : OntologyKind) × (r ≡ Err kind) × (close ≡ place)
within_passes close place (Ok o) h = absurd h
within_passes close place (Err kind) h = (kind, refl, h.0)

-- an item that passes a limit by an axiom
pub record AxiomPasses (known : Table) (es : Entities) (o : Declared) (item : Item)
    (place : ℕ) : Type 0 where
  pub statement : Axiom
  pub is : item ≡ states statement
  pub at : statement.close ≡ place
  pub terms : List Term
  pub said : terms_said known es statement ≡ Ok terms
  pub kind : OntologyKind
  pub fails : all_added o (statements statement.form terms) ≡ Err kind

axiom_passes : (known : Table) (es : Entities) (o : Declared) (item : Item) (place : ℕ)
    → PassesAt (item_added known es o item) place → AxiomPasses known es o item place
unfolding axiom_added
axiom_passes known es o (states a) place h = elim (bound_err (terms_said known es a) _ place h) [
  | inl passes ↦ absurd (terms_never known es a place passes)
  | inr terms ↦
      let w = within_passes a.close place (all_added o (statements a.form terms.0)) terms.2 in
      record {
        statement = a;
        is = refl;
        at = w.2;
        terms = terms.0;
        said = terms.1;
        kind = w.0;
        fails = w.1;
      }
]
axiom_passes known es o silent place h = absurd h
axiom_passes known es o (not_taken t) place h = absurd h
axiom_passes known es o (declares k e close) place h = absurd h

-- the first item that passes a limit by an axiom
pub record AxiomSplit (known : Table) (es : Entities) (o : Declared) (items : List Item)
    (place : ℕ) : Type 0 where
  pub before : List Item
  pub item : Item
  pub later : List Item
  pub parts : items ≡ before ++ item ∷ later
  pub now : Declared
  pub added : axioms_added known es o before ≡ Ok now
  pub passes : AxiomPasses known es now item place

pub axiom_split : (known : Table) (es : Entities) (items : List Item) (o : Declared) (place : ℕ)
    → PassesAt (axioms_added known es o items) place → AxiomSplit known es o items place
unfolding axioms_added
axiom_split known es [] o place h = absurd h
axiom_split known es (item ∷ rest) o place h =
    elim (bound_err (item_added known es o item) _ place h) [
      | inl passes ↦ record {
        before = [];
        item = item;
        later = rest;
        parts = refl;
        now = o;
        added = refl;
        passes = axiom_passes known es o item place passes;
      }
      | inr next ↦
          let s = axiom_split known es rest next.0 place next.2 in
          record {
            before = item ∷ s.before;
            item = s.item;
            later = s.later;
            parts = ap (λ (items : List Item). item ∷ items) s.parts;
            now = s.now;
            added = then_ok (item_added known es o item) (λ (x : Declared).
                axioms_added known es x s.before) next.0 next.1 ∙ s.added;
            passes = s.passes;
          }
    ]

-- ---- declarations

-- an item that passes a limit by a declaration
pub record NamePasses (known : Table) (v : Vocabulary) (item : Item) (place : ℕ) : Type 0 where
  pub kind : Kind
  pub token : Lexeme
  pub close : ℕ
  pub is : item ≡ declares kind (named token) close
  pub at : close ≡ place
  pub new : IsNew known v kind token
  pub full : IsFull v.ontology (saying.declares kind (name_of token))

pub fewer_full : {X : Type 0} (count most : ℕ) (x : X) (kind : OntologyKind)
    → if_fewer count most x ≡ Err kind → most ≤ count
fewer_full {X} count most x kind = go (nat_lt count most) refl
  where
    go : (b : Bool) → nat_lt count most ≡ b → if_fewer count most x ≡ Err kind → most ≤ count
    go true test = rw test (λ e. absurd cc)
    go false test = λ e. grind (arith, nat_tests)

pub full_fails : {X : Type 0} (count most : ℕ) (x y : X) → most ≤ count
    → if_fewer count most x ≡ Ok y → ⊥
full_fails {X} count most x y full =
    let test : nat_lt count most ≡ false = grind (arith, nat_tests) in
    rw test (λ e. absurd cc)

module _ (known : Table) (v : Vocabulary) (k : Kind) (t : Lexeme) (close place : ℕ) where
  full_name : is_declared v.ontology (name_of t) ≡ false → (kind : OntologyKind)
      → added v.ontology (saying.declares k (name_of t)) ≡ Err kind
      → IsFull v.ontology (saying.declares k (name_of t))
  unfolding added
  full_name free kind =
      rw free (λ e. fewer_full (length (names_of k v.ontology)) (most_names k)
      (with_name k (name_of t) v.ontology) kind e)

  abbrev FullHere : Type 0
  FullHere = (is_declared v.ontology (name_of t) ≡ false) × (close ≡ place)
      × IsFull v.ontology (saying.declares k (name_of t))

  newly_passes : (iri : List ℕ) → PassesAt (newly_declared v k t iri close) place → FullHere
  newly_passes iri h = go (is_declared v.ontology (name_of t)) refl
    where
      taken : is_declared v.ontology (name_of t) ≡ true
          → PassesAt (newly_declared v k t iri close) place → ⊥
      taken is = rw is (λ h. let e = h.1 in absurd cc)

      limited : is_declared v.ontology (name_of t) ≡ false
          → PassesAt (newly_declared v k t iri close) place
          → PassesAt (within_limits close (added v.ontology (saying.declares k (name_of t)))) place
      limited is = rw is (λ h. elim (bound_err
          (within_limits close (added v.ontology (saying.declares k (name_of t)))) _ place h) [
            | inl passes ↦ passes
            | inr made ↦ absurd made.2
          ])

      go : (b : Bool) → is_declared v.ontology (name_of t) ≡ b → FullHere
      go true is = absurd (taken is h)
      go false is =
          let w = within_passes close place (added v.ontology (saying.declares k (name_of t)))
          (limited is h) in
          (is, w.2, full_name is w.0 w.1)

  again_never : (name : List ℕ) → PassesAt (again_declared v t name) place → ⊥
  again_never name = go (is_given v t name) refl
    where
      go : (b : Bool) → is_given v t name ≡ b → PassesAt (again_declared v t name) place → ⊥
      go true is = rw is (λ h. let e = h.1 in absurd cc)
      go false is = rw is (λ h. absurd h)

  iri_passes : (iri : Option (List ℕ)) → expanded known t ≡ iri
      → PassesAt (iri_declared v k t close iri) place
      → NamePasses known v (declares k (named t) close) place
  iri_passes None whole h = let e = h.1 in absurd cc
  iri_passes (Some iri) whole h = go (is_usable (name_of t)) refl
    where
      unusable : is_usable (name_of t) ≡ false
          → PassesAt (iri_declared v k t close (Some iri)) place → ⊥
      unusable is = rw is (λ h. let e = h.1 in absurd cc)

      usable : is_usable (name_of t) ≡ true
          → PassesAt (iri_declared v k t close (Some iri)) place
          → PassesAt (known_or_new v k t iri close (looked_up iri (entities_of k v.entities))) place
      usable is = rw is (λ h. h)

      by_name : (found : Option (List ℕ)) → looked_up iri (entities_of k v.entities) ≡ found
          → is_usable (name_of t) ≡ true → PassesAt (known_or_new v k t iri close found) place
          → NamePasses known v (declares k (named t) close) place
      by_name None absent is p =
          let full = newly_passes iri p in record {
            kind = k;
            token = t;
            close = close;
            is = refl;
            at = full.1;
            new = record {
              iri = iri;
              stands_for = whole;
              usable = is;
              absent = absent;
              free = full.0;
            };
            full = full.2;
          }
      by_name (Some name) there is p = absurd (again_never name p)

      go : (b : Bool) → is_usable (name_of t) ≡ b
          → NamePasses known v (declares k (named t) close) place
      go true is =
          by_name (looked_up iri (entities_of k v.entities)) refl is (usable is h)
      go false is = absurd (unusable is h)

name_passes : (known : Table) (v : Vocabulary) (item : Item) (place : ℕ)
    → PassesAt (item_declared known v item) place → NamePasses known v item place
name_passes known v silent place h = absurd h
name_passes known v (not_taken t) place h = absurd h
name_passes known v (states a) place h = absurd h
name_passes known v (declares k (refused t) close) place h = let e = h.1 in absurd cc
name_passes known v (declares k (named t) close) place h =
    iri_passes known v k t close place (expanded known t) refl h

-- the first item that passes a limit by a declaration
pub record NameSplit (known : Table) (v : Vocabulary) (items : List Item) (place : ℕ) : Type 0
  where
    pub before : List Item
    pub item : Item
    pub later : List Item
    pub parts : items ≡ before ++ item ∷ later
    pub now : Vocabulary
    pub declared : all_declared known v before ≡ Ok now
    pub passes : NamePasses known now item place

pub name_split : (known : Table) (items : List Item) (v : Vocabulary) (place : ℕ)
    → PassesAt (all_declared known v items) place → NameSplit known v items place
unfolding all_declared
name_split known [] v place h = absurd h
name_split known (item ∷ rest) v place h = elim (bound_err (item_declared known v item) _ place h) [
  | inl passes ↦ record {
    before = [];
    item = item;
    later = rest;
    parts = refl;
    now = v;
    declared = refl;
    passes = name_passes known v item place passes;
  }
  | inr next ↦
      let s = name_split known rest next.0 place next.2 in
      record {
        before = item ∷ s.before;
        item = s.item;
        later = s.later;
        parts = ap (λ (items : List Item). item ∷ items) s.parts;
        now = s.now;
        declared = then_ok (item_declared known v item) (λ (x : Vocabulary).
            all_declared known x s.before) next.0 next.1 ∙ s.declared;
        passes = s.passes;
      }
]
