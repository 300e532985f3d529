-- A text says too many of something exactly where its statements pass a limit.
use Rattle.std.proofs.Common.{◌≡◌, ℕ, Bool, true, false, cond, List, []}
use Rattle.std.proofs.Common.{◌∷◌, ◌++◌, length, Option, Some, None, Result, Ok, Err, refl, sym, ap}
use Rattle.std.proofs.Common.{subst, ◌∙◌, ◌⊎◌, inl, inr}
use Rattle.std.specs.Str.{bytes_eq}
use Rattle.dl_syntax.specs.declared.names.Kind.{Kind}
use Rattle.dl_syntax.specs.declared.names.Kind.TheVariants as as_kind
use Rattle.dl_syntax.specs.Ontology.{Declared, is_declared, names_of, most_names, with_name}
use Rattle.ontology_reader.specs.declared.OntologyKind.{OntologyKind}
use Rattle.ontology_reader.specs.Sayings.{RoleTerm, Saying}
use Rattle.ontology_reader.specs.Sayings as saying
use Rattle.ontology_reader.specs.Adding.{added}
use Rattle.owl_tokens.specs.Tokens.{Lexeme}
use Rattle.owl_tokens.specs.Tables.{Table, looked_up, put}
use Rattle.owl_tokens.specs.Iris.{expanded, name_of}
use Rattle.owl_documents.specs.Terms.{named, refused, Role, Class, everything, only, some_of}
use Rattle.owl_documents.specs.Terms.{some_in}
use Rattle.owl_documents.specs.Terms as term
use Rattle.owl_documents.specs.Items.{Item, Axiom, silent, not_taken, declares, states}
use Rattle.owl_reader.specs.Statements.{Said, ◌>>=◌, Entities, entities_of}
use Rattle.owl_reader.specs.Statements.{with_entity, is_usable, is_entity, iri_resolved, resolved}
use Rattle.owl_reader.specs.Statements.{name_or_flaw, Term, role_said, role_term, class_term}
use Rattle.owl_reader.specs.Statements.{all_said, terms_said, Vocabulary, all_added, statements}
use Rattle.owl_reader.specs.Statements.{within_limits, axiom_added, item_added, axioms_added}
use Rattle.owl_reader.specs.Statements.{newly_declared, again_declared, is_given, known_or_new}
use Rattle.owl_reader.specs.Statements.{iri_declared, item_declared, all_declared}
use Rattle.owl_reader.specs.Reading.{Fault, too_many, fault_of, line_of, no_vocabulary}
use Rattle.owl_reader.specs.Standing.{FirstFault}
use Rattle.owl_reader.proofs.StandingLemmas.{has_first_fault}
use Rattle.owl_faults.specs.Limits.{IsFull, PassesLimit, IsNew, HasTooMany}
use Rattle.owl_faults.specs.Laws.{FaultOfLimits}
use Rattle.owl_faults.proofs.Splits.{bound_ok, then_ok, PassesAt, NameSplit, name_split, AxiomSplit}
use Rattle.owl_faults.proofs.Splits.{axiom_split, full_fails}
use Rattle.owl_faults.proofs.Fitting.{Has, Keeps, name_keeps, name_there, declared_new}
use Rattle.owl_faults.proofs.Fitting.{all_keep, Every, every_append, TermFits, statements_fit}
use Rattle.owl_faults.proofs.Fitting.{fails_full, full_stops}

-- ---- the entities are names of the ontology

abbrev Named : Entities → Declared → Type 0
Named es o = (kind : Kind) (iri name : List ℕ) → looked_up iri (entities_of kind es) ≡ Some name
    → Has o kind name

put_looked : (key text : List ℕ) (table : Table) (iri name : List ℕ)
    → looked_up iri (put key text table) ≡ Some name
    → (text ≡ name) ⊎ (looked_up iri table ≡ Some name)
unfolding put looked_up
put_looked key text [] iri name = go (bytes_eq iri key) refl
  where
    go : (b : Bool) → bytes_eq iri key ≡ b
        → cond {A = Option (List ℕ)} (bytes_eq iri key) (Some text) None ≡ Some name
        → (text ≡ name) ⊎ (looked_up iri [] ≡ Some name)
    go true is = rw is (λ e. inl cc)
    go false is = rw is (λ e. absurd cc)
put_looked key text (entry ∷ rest) iri name =
    go (bytes_eq key entry.0) (bytes_eq iri entry.0) refl refl (put_looked key text rest iri name)
  where
    go : (b c : Bool) → bytes_eq key entry.0 ≡ b → bytes_eq iri entry.0 ≡ c
        → (looked_up iri (put key text rest) ≡ Some name
        → (text ≡ name) ⊎ (looked_up iri rest ≡ Some name))
        → looked_up iri (put key text (entry ∷ rest)) ≡ Some name
        → (text ≡ name) ⊎ (looked_up iri (entry ∷ rest) ≡ Some name)
    go true true here same more = rw here (rw same (λ e. inl cc))
    go true false here same more = rw here (rw same (λ e. inr e))
    go false true here same more = rw here (rw same (λ e. inr e))
    go false false here same more = rw here (rw same more)

named_put : (es : Entities) (o : Declared) (k : Kind) (iri name : List ℕ) → Named es o
    → Named (with_entity k iri name es) (with_name k name o)
named_put es o k iri name owned kind key text h =
    go k kind (same k kind h)
  where
    same : (k kind : Kind)
        → looked_up key (entities_of kind (with_entity k iri name es)) ≡ Some text
        → ((k ≡ kind) × (name ≡ text)) ⊎ (looked_up key (entities_of kind es) ≡ Some text)
    same as_kind.Concept as_kind.Concept e =
        elim (put_looked iri name es.concepts key text e) [
          | inl is ↦ inl (refl, is)
          | inr old ↦ inr old
        ]
    same as_kind.Role as_kind.Role e =
        elim (put_looked iri name es.roles key text e) [
          | inl is ↦ inl (refl, is)
          | inr old ↦ inr old
        ]
    same as_kind.Individual as_kind.Individual e =
        elim (put_looked iri name es.individuals key text e) [
          | inl is ↦ inl (refl, is)
          | inr old ↦ inr old
        ]
    same as_kind.Concept as_kind.Role e = inr e
    same as_kind.Concept as_kind.Individual e = inr e
    same as_kind.Role as_kind.Concept e = inr e
    same as_kind.Role as_kind.Individual e = inr e
    same as_kind.Individual as_kind.Concept e = inr e
    same as_kind.Individual as_kind.Role e = inr e

    go : (k kind : Kind)
        → ((k ≡ kind) × (name ≡ text)) ⊎ (looked_up key (entities_of kind es) ≡ Some text)
        → Has (with_name k name o) kind text
    go k kind (inl (is, also)) =
        subst (λ (t : List ℕ). Has (with_name k name o) kind t) also
        (subst (λ (x : Kind). Has (with_name k name o) x name) is (name_there o k name))
    go k kind (inr old) = name_keeps o k name kind text (owned kind key text old)

pub within_ok : (close : ℕ) (r : Result Declared OntologyKind) (o : Declared)
    → within_limits close r ≡ Ok o → r ≡ Ok o
within_ok close (Ok x) o is = let same : x ≡ o = cc in
    ap (λ (d : Declared). let r : Result Declared OntologyKind = Ok d in r) same
within_ok close (Err e) o is = absurd cc

pub got : {A : Type 0} (p q : A) → (let said : Said A = Ok p in said ≡ Ok q) → p ≡ q
got p q is = cc

-- every vocabulary that is declared names what its ontology declares
abbrev NamedAll : Vocabulary → Type 0
NamedAll v = Named v.entities v.ontology

module _ (known : Table) (v w : Vocabulary) (k : Kind) (t : Lexeme) (close : ℕ)
    (owned : NamedAll v) where
  made_named : (iri : List ℕ) (o : Declared)
      → added v.ontology (saying.declares k (name_of t)) ≡ Ok o
      → (let x : Vocabulary = record {
        entities = with_entity k iri (name_of t) v.entities;
        ontology = o;
      } in x ≡ w) → NamedAll w
  unfolding added
  made_named iri o is same =
      subst NamedAll same (subst (λ (x : Declared). Named
      (with_entity k iri (name_of t) v.entities) x)
      (declared_new v.ontology o k (name_of t) is)
      (named_put v.entities v.ontology k iri (name_of t) owned))

  newly_named : (iri : List ℕ) → newly_declared v k t iri close ≡ Ok w → NamedAll w
  newly_named iri = go (is_declared v.ontology (name_of t)) refl
    where
      go : (b : Bool) → is_declared v.ontology (name_of t) ≡ b
          → newly_declared v k t iri close ≡ Ok w → NamedAll w
      go true is = rw is (λ e. absurd cc)
      go false is = rw is (λ e.
          let b = bound_ok (within_limits close (added v.ontology
          (saying.declares k (name_of t)))) _ w e in
          made_named iri b.0 (within_ok close (added v.ontology (saying.declares k (name_of t)))
          b.0 b.1) (got _ w b.2))

  again_named : (name : List ℕ) → again_declared v t name ≡ Ok w → NamedAll w
  again_named name = go (is_given v t name) refl
    where
      go : (b : Bool) → is_given v t name ≡ b → again_declared v t name ≡ Ok w → NamedAll w
      go true is = rw is (λ e. absurd cc)
      go false is = rw is (λ e. subst NamedAll (got v w e) owned)

  found_named : (iri : List ℕ) (found : Option (List ℕ)) → known_or_new v k t iri close found ≡ Ok w
      → NamedAll w
  found_named iri None e = newly_named iri e
  found_named iri (Some name) e = again_named name e

  iri_named : (iri : Option (List ℕ)) → iri_declared v k t close iri ≡ Ok w → NamedAll w
  iri_named None e = absurd cc
  iri_named (Some iri) e = go (is_usable (name_of t)) refl e
    where
      go : (b : Bool) → is_usable (name_of t) ≡ b → iri_declared v k t close (Some iri) ≡ Ok w
          → NamedAll w
      go true is =
          rw is (λ e. found_named iri (looked_up iri (entities_of k v.entities)) e)
      go false is = rw is (λ e. absurd cc)

item_named : (known : Table) (v w : Vocabulary) (item : Item) → item_declared known v item ≡ Ok w
    → NamedAll v → NamedAll w
item_named known v w silent is owned = subst NamedAll (got v w is) owned
item_named known v w (not_taken t) is owned = subst NamedAll (got v w is) owned
item_named known v w (states a) is owned = subst NamedAll (got v w is) owned
item_named known v w (declares k (refused t) close) is owned = absurd cc
item_named known v w (declares k (named t) close) is owned =
    iri_named known v w k t close owned (expanded known t) is

all_named : (known : Table) (items : List Item) (v w : Vocabulary)
    → all_declared known v items ≡ Ok w → NamedAll v → NamedAll w
unfolding all_declared
all_named known [] v w is owned = subst NamedAll (got v w is) owned
all_named known (item ∷ rest) v w is owned =
    let b = bound_ok (item_declared known v item) _ w is in
    all_named known rest b.0 w b.2 (item_named known v b.0 item b.1 owned)

none_named : NamedAll no_vocabulary
unfolding looked_up
none_named as_kind.Concept iri name h = absurd cc
none_named as_kind.Role iri name h = absurd cc
none_named as_kind.Individual iri name h = absurd cc

axioms_keep : (known : Table) (es : Entities) (items : List Item) (o out : Declared)
    → axioms_added known es o items ≡ Ok out → Keeps o out
unfolding axioms_added axiom_added
axioms_keep known es [] o out is =
    subst (λ (x : Declared). Keeps o x) (got o out is) (λ kind text h. h)
axioms_keep known es (silent ∷ rest) o out is = axioms_keep known es rest o out is
axioms_keep known es (not_taken t ∷ rest) o out is = axioms_keep known es rest o out is
axioms_keep known es (declares k e close ∷ rest) o out is = axioms_keep known es rest o out is
axioms_keep known es (states a ∷ rest) o out is =
    let b = bound_ok (axiom_added known es o a) _ out is in
    let terms = bound_ok (terms_said known es a) _ b.0 b.1 in
    let first = all_keep (statements a.form terms.0) o b.0
    (within_ok a.close (all_added o (statements a.form terms.0)) b.0 terms.2) in
    let later = axioms_keep known es rest b.0 out b.2 in
    λ kind text h. later kind text (first kind text h)

-- ---- terms fit

module _ (known : Table) (es : Entities) (o : Declared) (owned : Named es o) where
  name_there_is : (t : Lexeme) (found : Option (List ℕ)) (name : List ℕ)
      → name_or_flaw t found ≡ Ok name → found ≡ Some name
  name_there_is t None name is = absurd cc
  name_there_is t (Some x) name is = let same : x ≡ name = cc in
      ap (λ (y : List ℕ). Some y) same

  iri_has : (kind : Kind) (t : Lexeme) (iri : Option (List ℕ)) (name : List ℕ)
      → iri_resolved es kind t iri ≡ Ok name → Has o kind name
  iri_has kind t None name is = absurd cc
  iri_has kind t (Some iri) name is = go (is_entity es iri) (is_usable (name_of t)) refl refl is
    where
      go : (b c : Bool) → is_entity es iri ≡ b → is_usable (name_of t) ≡ c
          → iri_resolved es kind t (Some iri) ≡ Ok name → Has o kind name
      go true true is usable = rw is (rw usable (λ e. owned kind iri name
          (name_there_is t (looked_up iri (entities_of kind es)) name e)))
      go true false is usable = rw is (rw usable (λ e. absurd cc))
      go false c is usable = rw is (λ e. absurd cc)

  resolved_has : (kind : Kind) (e : term.Entity) (name : List ℕ)
      → resolved known es kind e ≡ Ok name → Has o kind name
  resolved_has kind (named t) name is = iri_has kind t (expanded known t) name is
  resolved_has kind (refused t) name is = absurd cc

  role_has : (r : Role) (said : RoleTerm) → role_said known es r ≡ Ok said
      → Has o as_kind.Role said.role
  role_has r said is =
      let b = bound_ok (resolved known es as_kind.Role r.entity) _ said is in
      subst (λ (x : RoleTerm). Has o as_kind.Role x.role) (got _ said b.2)
      (resolved_has as_kind.Role r.entity b.0 b.1)

  role_term_fits : (r : Role) (x : Term) → role_term known es r ≡ Ok x → TermFits o x
  role_term_fits r x is =
      let b = bound_ok (role_said known es r) _ x is in
      subst (TermFits o) (got _ x b.2) (role_has r b.0 b.1)

  class_term_fits : (c : Class) (x : Term) → class_term known es c ≡ Ok x → TermFits o x
  class_term_fits (everything t) x is = subst (TermFits o) (got _ x is) tt
  class_term_fits (only e) x is =
      let b = bound_ok (resolved known es as_kind.Concept e) _ x is in
      subst (TermFits o) (got _ x b.2) (resolved_has as_kind.Concept e b.0 b.1)
  class_term_fits (some_of r) x is =
      let b = bound_ok (role_said known es r) _ x is in
      subst (TermFits o) (got _ x b.2) (role_has r b.0 b.1)
  class_term_fits (some_in t r e) x is =
      let b = bound_ok (role_said known es r) _ x is in
      let n = bound_ok (resolved known es as_kind.Concept e) _ x b.2 in
      subst (TermFits o) (got _ x n.2)
      (role_has r b.0 b.1, resolved_has as_kind.Concept e n.0 n.1)

  all_fit : {X : Type 0} (one : X → Said Term) → ((x : X) (term : Term) → one x ≡ Ok term
      → TermFits o term) → (xs : List X) (terms : List Term) → all_said one xs ≡ Ok terms
      → Every (TermFits o) terms
  unfolding all_said
  all_fit one fits [] terms is = subst (Every (TermFits o)) (got _ terms is) tt
  all_fit one fits (x ∷ xs) terms is =
      let b = bound_ok (one x) _ terms is in
      let c = bound_ok (all_said one xs) _ terms b.2 in
      subst (Every (TermFits o)) (got _ terms c.2)
      (fits x b.0 b.1, all_fit one fits xs c.0 c.1)

  terms_fit : (a : Axiom) (terms : List Term) → terms_said known es a ≡ Ok terms
      → Every (TermFits o) terms
  unfolding terms_said
  terms_fit a terms is =
      let r = bound_ok (all_said (role_term known es) a.roles) _ terms is in
      let c = bound_ok (all_said (class_term known es) a.classes) _ terms r.2 in
      subst (Every (TermFits o)) (got _ terms c.2)
      (every_append (TermFits o) r.0 c.0
      (all_fit (role_term known es) role_term_fits a.roles r.0 r.1)
      (all_fit (class_term known es) class_term_fits a.classes c.0 c.1))

-- ---- from the fault to the limit

passes_as : {X : Type 0} (r s : Said X) (place : ℕ) → s ≡ r → PassesAt r place → PassesAt s place
passes_as r s place is h = subst (λ (x : Said _). PassesAt x place) (sym is) h

of_first : (text : List ℕ) (line : ℕ) (fault : Fault) → fault ≡ too_many
    → FirstFault text line fault → HasTooMany text line
of_first text line fault is (FirstFault.bytes long) = absurd cc
of_first text line fault is (FirstFault.grammar short none stop read) = absurd cc
of_first text line fault is (FirstFault.outside d short t found) = absurd cc
of_first text line fault is (FirstFault.declaration d short taken place f declared) =
    let s : NameSplit d.known no_vocabulary d.items place =
    name_split d.known d.items no_vocabulary place
    (passes_as _ (all_declared d.known no_vocabulary d.items) place declared (refl, is)) in
    subst (λ (n : ℕ). HasTooMany text (line_of text n)) s.passes.at
    (HasTooMany.names d short taken s.before s.later s.passes.kind s.passes.token s.passes.close
    (s.parts ∙ ap (λ (item : Item). s.before ++ item ∷ s.later) s.passes.is) s.now s.declared
    s.passes.new s.passes.full)
of_first text line fault is (FirstFault.statement d short taken v declared place f stated) =
    let s : AxiomSplit d.known v.entities v.ontology d.items place =
    axiom_split d.known v.entities d.items v.ontology place
    (passes_as _ (axioms_added d.known v.entities v.ontology d.items) place stated (refl, is)) in
    let p = s.passes in
    let owned : NamedAll v = all_named d.known d.items no_vocabulary v declared none_named in
    let keeps : Keeps v.ontology s.now =
    axioms_keep d.known v.entities s.before v.ontology s.now s.added in
    let later : Named v.entities s.now = λ kind iri name h.
    keeps kind name (owned kind iri name h) in
    let fit = terms_fit d.known v.entities s.now later p.statement p.terms p.said in
    subst (λ (n : ℕ). HasTooMany text (line_of text n)) p.at
    (HasTooMany.axioms d short taken v declared s.before s.later p.statement
    (s.parts ∙ ap (λ (item : Item). s.before ++ item ∷ s.later) p.is) s.now s.added p.terms p.said
    (fails_full (statements p.statement.form p.terms) s.now p.kind
    (statements_fit s.now p.statement.form p.terms fit) p.fails))

-- ---- and the other way round

passes_before : {A B : Type 0} (r : Said A) (f : A → Said B) (place : ℕ) → PassesAt r place
    → PassesAt (r >>= f) place
passes_before (Ok a) f place h = absurd h
passes_before (Err e) f place h = h

declared_before : (known : Table) (before rest : List Item) (v w : Vocabulary)
    → all_declared known v before ≡ Ok w
    → all_declared known v (before ++ rest) ≡ all_declared known w rest
unfolding all_declared
declared_before known [] rest v w is =
    ap (λ (x : Vocabulary). all_declared known x rest) (got v w is)
declared_before known (item ∷ before) rest v w is =
    let b = bound_ok (item_declared known v item) _ w is in
    then_ok (item_declared known v item) (λ (x : Vocabulary).
    all_declared known x (before ++ rest)) b.0 b.1
    ∙ declared_before known before rest b.0 w b.2

added_before : (known : Table) (es : Entities) (before rest : List Item) (o out : Declared)
    → axioms_added known es o before ≡ Ok out
    → axioms_added known es o (before ++ rest) ≡ axioms_added known es out rest
unfolding axioms_added
added_before known es [] rest o out is =
    ap (λ (x : Declared). axioms_added known es x rest) (got o out is)
added_before known es (item ∷ before) rest o out is =
    let b = bound_ok (item_added known es o item) _ out is in
    then_ok (item_added known es o item) (λ (x : Declared).
    axioms_added known es x (before ++ rest)) b.0 b.1
    ∙ added_before known es before rest b.0 out b.2

-- there is no room for the name
name_fails : (v : Vocabulary) (k : Kind) (name : List ℕ) → is_declared v.ontology name ≡ false
    → IsFull v.ontology (saying.declares k name) → (out : Declared)
    → added v.ontology (saying.declares k name) ≡ Ok out → ⊥
unfolding added
name_fails v k name free full out =
    rw free (λ e. full_fails (length (names_of k v.ontology)) (most_names k)
    (with_name k name v.ontology) out full e)

within_fails : (close : ℕ) (r : Result Declared OntologyKind)
    → ((out : Declared) → r ≡ Ok out → ⊥) → PassesAt (within_limits close r) close
within_fails close (Ok o) never = never o refl
within_fails close (Err kind) never = (refl, refl)

name_passes : (known : Table) (v : Vocabulary) (k : Kind) (t : Lexeme) (close : ℕ)
    → IsNew known v k t → IsFull v.ontology (saying.declares k (name_of t))
    → PassesAt (item_declared known v (declares k (named t) close)) close
name_passes known v k t close n full =
    rw n.stands_for (rw n.usable (rw n.absent (rw n.free (passes_before
    (within_limits close (added v.ontology (saying.declares k (name_of t)))) _ close
    (within_fails close (added v.ontology (saying.declares k (name_of t)))
    (name_fails v k (name_of t) n.free full))))))

axiom_passes : (known : Table) (es : Entities) (o : Declared) (a : Axiom) (terms : List Term)
    → terms_said known es a ≡ Ok terms → PassesLimit o (statements a.form terms)
    → PassesAt (axiom_added known es o a) a.close
unfolding axiom_added
axiom_passes known es o a terms said passes =
    rw said (within_fails a.close (all_added o (statements a.form terms))
    (full_stops o (statements a.form terms) passes))

-- the flaw of a limit
fault_at : {X : Type 0} (text : List ℕ) (r : Said X) (place : ℕ) → PassesAt r place
    → ((line : ℕ) (f : _) → r ≡ Err (line, f)
    → FirstFault text (line_of text line) (fault_of f))
    → FirstFault text (line_of text place) too_many
fault_at text (Ok x) place h first = absurd h
fault_at text (Err e) place h first =
    subst (λ (f : Fault). FirstFault text (line_of text place) f) h.1
    (subst (λ (n : ℕ). FirstFault text (line_of text n) (fault_of e.1)) h.0
    (first e.0 e.1 refl))

to_first : (text : List ℕ) (line : ℕ) → HasTooMany text line → FirstFault text line too_many
unfolding all_declared axioms_added
to_first text line (HasTooMany.names d short taken before later k t close parts v declared new
    full) =
    let item : Item = declares k (named t) close in
    let whole : all_declared d.known no_vocabulary d.items
    ≡ all_declared d.known v (item ∷ later) =
    ap (all_declared d.known no_vocabulary) parts
    ∙ declared_before d.known before (item ∷ later) no_vocabulary v declared in
    fault_at text (all_declared d.known no_vocabulary d.items) close
    (passes_as (all_declared d.known v (item ∷ later)) (all_declared d.known no_vocabulary d.items)
    close whole (passes_before (item_declared d.known v item) _ close
    (name_passes d.known v k t close new full)))
    (λ place f is. FirstFault.declaration d short taken place f is)
to_first text line (HasTooMany.axioms d short taken v declared before later a parts o stated terms
    said passes) =
    let whole : axioms_added d.known v.entities v.ontology d.items
    ≡ axioms_added d.known v.entities o (states a ∷ later) =
    ap (axioms_added d.known v.entities v.ontology) parts
    ∙ added_before d.known v.entities before (states a ∷ later) v.ontology o stated in
    fault_at text (axioms_added d.known v.entities v.ontology d.items) a.close
    (passes_as (axioms_added d.known v.entities o (states a ∷ later))
    (axioms_added d.known v.entities v.ontology d.items) a.close whole
    (passes_before (axiom_added d.known v.entities o a) _ a.close
    (axiom_passes d.known v.entities o a terms said passes)))
    (λ place f is. FirstFault.statement d short taken v declared place f is)

pub fault_of_limits : FaultOfLimits
fault_of_limits text line = (
  λ is. of_first text line too_many refl ((has_first_fault text line too_many).0 is),
  λ h. (has_first_fault text line too_many).1 (to_first text line h),
)
