-- A variable that is new, among few numbers.
use Rattle.std.proofs.Common.{◌≡◌, ◌==◌, ℕ, zero, suc, ◌+◌, ◌<◌, ◌≤◌, Bool, true, false, cond, List}
use Rattle.std.proofs.Common.{[], ◌∷◌, length, get_or, refl, sym, ◌∙◌, ap, subst, arith, inl, inr}
use Rattle.std.proofs.Common.{eq-eqb}
use Rattle.std.specs.Prelude.{◌↔◌, IsTrue, Option, Some, None, MatchOption, is_some}
use Rattle.std.specs.List.{Any, Contains}
use Rattle.std.proofs.lemmas.Bool.{eqb-true, cases_lt}
use Rattle.std.proofs.lemmas.List.Elements.{All-contains}
use Rattle.std.proofs.Math.ListN.{set}
use Rattle.std.proofs.lemmas.Option.{slice_get-get_or, get_or_from_slice_get}
use Rattle.dl_syntax.specs.declared.ontology.Inclusion.{Inclusion}
use Rattle.dl_syntax.specs.declared.queries.Term.{Term}
use Rattle.dl_syntax.specs.declared.queries.Term.TheVariants.{Var, Ind}
use Rattle.dl_syntax.specs.declared.queries.Atom.{Atom}
use Rattle.dl_syntax.specs.declared.queries.Atom.TheVariants as atom
use Rattle.dl_syntax.specs.declared.queries.Cq.{Cq}
use Rattle.dl_syntax.specs.Queries.{HasTerm, IsBound, IsQuery}
use Rattle.query_unify.specs.Reach.{Replaces}
use Rattle.query_unify.specs.Normal.{terms_of, normalise}
use Rattle.query_unify.specs.Table.{count_in_term, count_in_terms, count_in_atom, count_in_atoms}
use Rattle.query_unify.specs.Table.{IsNew, IsUnbound, Becomes}
use Rattle.query_unify.proofs.Bound.{occurs, in_body}
use Rattle.query_unify.proofs.Sizes.{terms_of-short}

pub count_of_terms : (v : ℕ) (atoms : List Atom)
    → count_in_atoms v atoms ≡ count_in_terms v (terms_of atoms)
count_of_terms v [] = refl
count_of_terms v (atom.Concept c x ∷ atoms) = omega (arith, count_of_terms v atoms)
count_of_terms v (atom.Role p x y ∷ atoms) = omega (arith, count_of_terms v atoms)

-- a variable of no term is not counted
other_count : (v w : ℕ) (b : Bool) → (v == w) ≡ b → (Var w ≡ Var v → ⊥) → ◌≡◌ {A = ℕ} (cond b 1 0) 0
other_count v w true is none = absurd (none (ap Var (sym (eqb-true v w is))))
other_count v w false is none = refl

pub absent : (v : ℕ) (terms : List Term) → (Contains terms (Var v) → ⊥) → count_in_terms v terms ≡ 0
absent v [] none = refl
absent v (Var w ∷ terms) none =
    omega (
      arith,
      other_count v w (v == w) refl (λ same.
          none (0, omega arith, same)),
      absent v terms (λ later.
          none (suc later.0, omega (arith, later.1), later.2)),
    )
absent v (Ind i ∷ terms) none =
    omega (arith, absent v terms (λ later. none (suc later.0, omega (arith, later.1), later.2)))

-- how often the variables below the bound occur, in all
total : ℕ → List Term → ℕ
total zero terms = 0
total (suc n) terms = total n terms + count_in_terms n terms

total_of : ℕ → Term → ℕ
total_of zero x = 0
total_of (suc n) x = total_of n x + count_in_term n x

unequal : (n w : ℕ) (b : Bool) → (n == w) ≡ b → n < w → ◌≡◌ {A = ℕ} (cond b 1 0) 0
unequal n w true is below = let same : n ≡ w = eqb-true n w is in absurd (omega arith)
unequal n w false is below = refl

total_of-zero : (n w : ℕ) → n ≤ w → total_of n (Var w) ≡ 0
unfolding total_of
total_of-zero zero w above = refl
total_of-zero (suc n) w above =
    omega (arith, total_of-zero n w (omega arith), unequal n w (n == w) refl (omega arith))

one_more : (n w k : ℕ) (b : Bool) → (n == w) ≡ b → k ≤ 1 → (n ≤ w → k ≡ 0)
    → k + cond {A = ℕ} b 1 0 ≤ 1
one_more n w k true is few none = let same : n ≡ w = eqb-true n w is in
    omega (arith, none (omega arith))
one_more n w k false is few none = omega arith

total_of-one : (n : ℕ) (x : Term) → total_of n x ≤ 1
unfolding total_of
total_of-one zero x = omega arith
total_of-one (suc n) (Var w) =
    one_more n w (total_of n (Var w)) (n == w) refl (total_of-one n (Var w)) (λ above.
    total_of-zero n w above)
total_of-one (suc n) (Ind i) = omega (arith, total_of-one n (Ind i))

total-cons : (n : ℕ) (x : Term) (terms : List Term)
    → total n (x ∷ terms) ≡ total_of n x + total n terms
unfolding total total_of
total-cons zero x terms = refl
total-cons (suc n) x terms = omega (arith, total-cons n x terms)

total-nil : (n : ℕ) → total n [] ≡ 0
unfolding total
total-nil zero = refl
total-nil (suc n) = omega (arith, total-nil n)

total-suc : (n : ℕ) (terms : List Term)
    → total (suc n) terms ≡ total n terms + count_in_terms n terms
unfolding total
total-suc n terms = refl

-- each place counts once
total-short : (n : ℕ) (terms : List Term) → total n terms ≤ length terms
total-short n [] = omega (arith, total-nil n)
total-short n (x ∷ terms) =
    omega (arith, total-cons n x terms, total_of-one n x, total-short n terms)

total-long : (n : ℕ) (terms : List Term) → ((v : ℕ) → v < n → 1 ≤ count_in_terms v terms)
    → n ≤ total n terms
unfolding total
total-long zero terms each = omega arith
total-long (suc n) terms each =
    omega (arith, total-long n terms (λ v below. each v (omega arith)), each n (omega arith))

-- where all the numbers below the number of places occur, the next one does not
full : (n : ℕ) (terms : List Term) → length terms ≤ n
    → ((v : ℕ) → v < n → 1 ≤ count_in_terms v terms) → count_in_terms n terms ≡ 0
full n terms short each =
    let long : n ≤ total n terms = total-long n terms each in
    let more : total (suc n) terms ≡ total n terms + count_in_terms n terms = total-suc n terms in
    omega (arith, total-short (suc n) terms)

pub unused_number : (q : Cq) (n : ℕ) → IsQuery q → n ≡ 16
    → ((v : ℕ) → v < n → 1 ≤ count_in_atoms v q.body) → count_in_atoms n q.body ≡ 0
unused_number q n is sixteen each =
    count_of_terms n q.body ∙ full n (terms_of q.body)
    (omega (arith, terms_of-short q.body, is.few_atoms)) (λ v below.
    subst (λ (k : ℕ). 1 ≤ k) (count_of_terms v q.body) (each v below))

-- a variable that is not in the body is new
pub IsNew-body : (q : Cq) (v : ℕ) → IsQuery q → count_in_atoms v q.body ≡ 0 → IsNew v q
IsNew-body q v is none = record {
  head = absent v q.head (λ there.
      let some : 1 ≤ count_in_terms v (terms_of q.body) =
      occurs v (terms_of q.body) (in_body q.body v
      (All-contains (IsBound q.body) q.head (Var v) is.head_bound there)) in
      omega (arith, count_of_terms v q.body));
  body = none;
}

pub made_step : (i : Inclusion) (place : ℕ) (q : Cq) (d : Atom) (new : ℕ) (a : Atom) (normal : Cq)
    → place < length q.body → IsNew new q → Becomes i q new (get_or q.body place d) a
    → normal ≡ normalise (record { head = q.head; body = set q.body place a })
    → Replaces i place q normal
made_step i place q d new a normal within is_new becomes is = record {
  old = get_or q.body place d;
  at = slice_get-get_or q.body place d within;
  variable = new;
  is_new = is_new;
  new = a;
  becomes = becomes;
  result = is;
}

pub no_step : (i : Inclusion) (place : ℕ) (q : Cq) (d : Atom)
    → ((new : ℕ) (a : Atom) → Becomes i q new (get_or q.body place d) a → ⊥) → (q' : Cq)
    → Replaces i place q q' → ⊥
no_step i place q d none q' r =
    none r.variable r.new (subst (λ (a : Atom).
    Becomes i q r.variable a r.new) (sym (get_or_from_slice_get q.body place r.old d r.at))
    r.becomes)

-- the two counts decide whether a variable is unbound
pub unbound_by : (v : ℕ) (q : Cq) (count : ℕ) → count ≡ count_in_atoms v q.body
    → (Contains q.head (Var v) → ⊥) → IsTrue (count == 1) ↔ IsUnbound v q
unbound_by v q count counted none = (
  λ one. record { head = absent v q.head none; body = sym counted ∙ eqb-true count 1 one },
  λ unbound. eq-eqb count 1 (counted ∙ unbound.body),
)

pub bound_by : (v : ℕ) (q : Cq) → Contains q.head (Var v) → IsUnbound v q → ⊥
bound_by v q there unbound = let some : 1 ≤ count_in_terms v q.head = occurs v q.head there in
    let none = unbound.head in omega arith

-- whether the step applies
pub applies : (i : Inclusion) (place : ℕ) (q : Cq) (d : Atom) (found : Option Atom)
    → place < length q.body → MatchOption found ((new : ℕ) (a : Atom)
    → Becomes i q new (get_or q.body place d) a
    → ⊥) (λ a. (new : ℕ) × IsNew new q × Becomes i q new (get_or q.body place d) a)
    → IsTrue (is_some found) ↔ ((q' : Cq) × Replaces i place q q')
applies i place q d None within none =
    (λ some. absurd (cc), λ (q', r). absurd (no_step i place q d none q' r))
applies i place q d (Some a) within (new, is_new, becomes) = (
  λ some. (
    normalise (record {
      head = q.head;
      body =
          set q.body place a;
    }),
    made_step i place q d new a
        (normalise (record { head = q.head; body = set q.body place a })) within is_new becomes
        refl,
  ),
  λ found. refl,
)

-- a variable that is counted stands in the atoms
counted_term : (v : ℕ) (x : Term) → 1 ≤ count_in_term v x → x ≡ Var v
counted_term v (Var w) some = by (v == w) refl some
  where
    by : (b : Bool) → (v == w) ≡ b → 1 ≤ cond {A = ℕ} b 1 0 → Var w ≡ Var v
    by true is some' = ap Var (sym (eqb-true v w is))
    by false is some' = absurd (omega arith)
counted_term v (Ind i) some = absurd (omega arith)

counted_atom : (v : ℕ) (a : Atom) → 1 ≤ count_in_atom v a → HasTerm a (Var v)
counted_atom v (atom.Concept c x) some = counted_term v x some
counted_atom v (atom.Role p x y) some = elim (cases_lt 0 (count_in_term v x)) [
  | inl first ↦ inl (counted_term v x (omega arith))
  | inr none ↦ inr (counted_term v y (omega arith))
]

counted_any : (v : ℕ) (atoms : List Atom) → 1 ≤ count_in_atoms v atoms
    → Any (λ a. HasTerm a (Var v)) atoms
counted_any v [] some = absurd (omega arith)
counted_any v (a ∷ atoms) some = elim (cases_lt 0 (count_in_atom v a)) [
  | inl first ↦ (0, a, omega arith, refl, counted_atom v a (omega arith))
  | inr none ↦ (let later : Any (λ b. HasTerm b (Var v)) atoms =
      counted_any v atoms (omega arith) in
      (suc later.0, later.1, omega (arith, later.2), later.3, later.4))
]

pub bound_counted : (v : ℕ) (atoms : List Atom) (count : ℕ) → count ≡ count_in_atoms v atoms
    → (0 < count) ↔ IsBound atoms (Var v)
bound_counted v atoms count counted = (
  λ some. counted_any v atoms (omega arith),
  λ bound. (let some : 1 ≤ count_in_terms v (terms_of atoms) =
      occurs v (terms_of atoms) (in_body atoms v bound) in omega (arith, count_of_terms v atoms)),
)
