-- A row is an answer exactly where the head becomes it and the rest then has a match.
use Rattle.std.proofs.Common.{
  ◌≡◌,
  ◌==◌,
  ℕ,
  Bool,
  true,
  false,
  cond,
  List,
  [],
  ◌∷◌,
  length,
  map,
  refl,
  sym,
  ◌∙◌,
  ap,
  ap₂,
  subst,
  arith,
  inl,
  inr,
  eq-eqb,
}
use Rattle.std.specs.Prelude.{◌↔◌, IsTrue}
use Rattle.std.specs.List.{Contains}
use Rattle.std.proofs.lemmas.Bool.{eqb-true}
use Rattle.std.proofs.lemmas.List.Elements.{All-weaker}
use Rattle.dl_syntax.specs.declared.names.IndId.{IndId}
use Rattle.dl_syntax.specs.declared.facts.Element.TheVariants.{Ind as ind_element}
use Rattle.dl_syntax.specs.declared.facts.Fact.{Fact}
use Rattle.dl_syntax.specs.declared.facts.Fact.TheVariants as fact
use Rattle.dl_syntax.specs.declared.queries.Term.{Term}
use Rattle.dl_syntax.specs.declared.queries.Term.TheVariants.{Var, Ind}
use Rattle.dl_syntax.specs.declared.queries.Atom.{Atom}
use Rattle.dl_syntax.specs.declared.queries.Atom.TheVariants as atom
use Rattle.dl_syntax.specs.declared.queries.Cq.{Cq}
use Rattle.dl_syntax.specs.Match.{Assignment, Match, term_at, atom_at}
use Rattle.list_lemmas.proofs.Elements.{Contains-none, Contains-first, Contains-later}
use Rattle.list_lemmas.proofs.Elements.{Contains-cons_cases}
use Rattle.list_lemmas.proofs.Maps.{map_both}
use Rattle.query_unify.specs.Substitution.{Substitution, applied, applied_atom, applied_query}
use Rattle.query_unify.specs.Laws.{Gives}
use Rattle.query_unify.proofs.Matches.{after, Gives-applied, Gives-from_applied}
use Rattle.ucq_join.specs.Answers.{IsAnswer}
use Rattle.contain_test.specs.Binding.{bound_to, Becomes}

-- the query with an empty head, its body under the substitution that sends its head to the row
abbrev pub bound_query : Cq → List IndId → Cq
bound_query q row = record { head = []; body = map (applied_atom (bound_to q.head row)) q.body }

module _ (t : Assignment) where
  -- where an assignment sends the head to the row, the substitution changes nothing for it
  agrees : (head : List Term) (row : List IndId) (v : ℕ)
      → map (term_at t) head ≡ map ind_element row
      → term_at t (bound_to head row v) ≡ t v
  agrees [] row v is = refl
  agrees (x ∷ head) [] v is = refl
  agrees (Var w ∷ head) (i ∷ row) v is = at (w == v) refl (agrees head row v (cc))
    where
      first : t w ≡ ind_element i
      first = cc

      at : (b : Bool) → (w == v) ≡ b → term_at t (bound_to head row v) ≡ t v
          → term_at t (cond b (Ind i) (bound_to head row v)) ≡ t v
      at true same later = sym first ∙ ap t (eqb-true w v same)
      at false same later = later
  agrees (Ind j ∷ head) (i ∷ row) v is = agrees head row v (cc)

  same_term : (head : List Term) (row : List IndId) → map (term_at t) head ≡ map ind_element row
      → (x : Term)
      → term_at t x ≡ term_at (after t (bound_to head row)) x
  same_term head row is (Var v) = sym (agrees head row v is)
  same_term head row is (Ind i) = refl

  same_atom : (head : List Term) (row : List IndId) → map (term_at t) head ≡ map ind_element row
      → (a : Atom)
      → atom_at t a ≡ atom_at (after t (bound_to head row)) a
  same_atom head row is (atom.Concept c x) = ap (fact.Concept c) (same_term head row is x)
  same_atom head row is (atom.Role p x y) =
      ap₂ (fact.Role p) (same_term head row is x) (same_term head row is y)

-- a variable of the head becomes an individual
becomes_one : (head : List Term) (row : List IndId) (v : ℕ) → length head ≡ length row
    → Contains head (Var v)
    → (j : IndId) × (bound_to head row v ≡ Ind j)
becomes_one [] row v long there = absurd (Contains-none (Var v) there)
becomes_one (x ∷ head) [] v long there = absurd (omega arith)
becomes_one (Var w ∷ head) (i ∷ row) v long there =
    at (w == v) refl (λ later. becomes_one head row v (omega arith) later)
  where
    at : (b : Bool) → (w == v) ≡ b
        → (Contains head (Var v) → (j : IndId) × (bound_to head row v ≡ Ind j))
        → (j : IndId) × (cond b (Ind i) (bound_to head row v) ≡ Ind j)
    at true same further = (i, refl)
    at false same further = elim (Contains-cons_cases (Var w) head (Var v) there) [
      | inl here ↦ absurd (let numbers : w ≡ v = cc in let one : (w == v) ≡ true =
          eq-eqb w v numbers in cc)
      | inr later ↦ further later
    ]
becomes_one (Ind j ∷ head) (i ∷ row) v long there =
    elim (Contains-cons_cases (Ind j) head (Var v) there) [
      | inl here ↦ absurd (cc)
      | inr later ↦ becomes_one head row v (omega arith) later
    ]

module _ (t : Assignment) (head : List Term) (row : List IndId) (long : length head ≡ length row)
    (is : map (term_at t) head ≡ map ind_element row) where
  one_becomes : (x : Term) (i : IndId) → Contains head x → term_at t x ≡ ind_element i
      → applied (bound_to head row) x ≡ Ind i
  one_becomes (Ind j) i there at = let same : j ≡ i = cc in ap Ind same
  one_becomes (Var v) i there at =
      let found : (j : IndId) × (bound_to head row v ≡ Ind j) = becomes_one head row v long there in
      let whole : ind_element found.0 ≡ ind_element i = ap (term_at t) (sym found.1)
      ∙ agrees t head row v is ∙ at in
      let same : found.0 ≡ i = cc in
      found.1 ∙ ap Ind same

  all_become : (terms : List Term) (places : List IndId)
      → ((x : Term) → Contains terms x → Contains head x)
      → map (term_at t) terms ≡ map ind_element places
      → map (applied (bound_to head row)) terms ≡ map Ind places
  all_become [] [] inside at = refl
  all_become [] (i ∷ places) inside at = absurd (cc)
  all_become (x ∷ terms) [] inside at = absurd (cc)
  all_become (x ∷ terms) (i ∷ places) inside at =
      ap₂ (λ (y : Term) (ys : List Term). y ∷ ys)
      (one_becomes x i (inside x (Contains-first x terms)) (cc))
      (all_become terms places (λ y there. inside y (Contains-later x terms y there)) (cc))

module _ (facts : List Fact) (q : Cq) (row : List IndId) where
  pub answer_becomes : length q.head ≡ length row → IsAnswer facts q row
      → Becomes (bound_to q.head row) q.head row
  answer_becomes long answer =
      all_become answer.assignment q.head row long answer.head q.head row (λ x there. there)
      answer.head

  pub answer_bound : IsAnswer facts q row → IsAnswer facts (bound_query q row) []
  answer_bound answer =
      let t : Assignment = answer.assignment in
      let s : Substitution = bound_to q.head row in
      let match : Match q.body facts (after t s) =
      All-weaker (λ a. Contains facts (atom_at t a)) (λ a. Contains facts (atom_at (after t s) a))
      (λ a there. subst (Contains facts) (same_atom t q.head row answer.head a) there) q.body
      answer.match in
      let given : Gives (applied_query s q) facts (map (term_at (after t s)) q.head) =
      Gives-from_applied s q facts (map (term_at (after t s)) q.head) t match refl in
      record { assignment = given.assignment; match = given.match; head = refl }

  pub bound_answer : Becomes (bound_to q.head row) q.head row
      → IsAnswer facts (bound_query q row) [] → IsAnswer facts q row
  bound_answer becomes answer =
      let s : Substitution = bound_to q.head row in
      let t : Assignment = answer.assignment in
      let head : map (term_at t) (map (applied s) q.head) ≡ map ind_element row =
      ap (map (term_at t)) becomes ∙ map_both (term_at t) Ind ind_element (λ i. refl) row in
      let whole : Gives (applied_query s q) facts (map ind_element row) =
      record { assignment = t; match = answer.match; head = head } in
      let given : Gives q facts (map ind_element row) =
      Gives-applied s q facts (map ind_element row) whole in
      record { assignment = given.assignment; match = given.match; head = given.head }

-- the query whose match is sought
module _ (q : Cq) (row : List IndId) (head : List Term) (same_head : head ≡ q.head) where
  pub asked_is : (body : List Atom) (none : List Term) (atoms : List Atom) → body ≡ q.body
      → none ≡ []
      → atoms ≡ map (applied_atom (bound_to head row)) body
      → record { head = none; body = atoms } ≡ bound_query q row
  asked_is body none atoms same_body empty bound =
      let atoms_are : atoms ≡ map (applied_atom (bound_to q.head row)) q.body =
      bound
      ∙ ap (λ (h : List Term). map (applied_atom (bound_to h row)) body) same_head
      ∙ ap (map (applied_atom (bound_to q.head row))) same_body in
      ap₂ (λ (h : List Term) (b : List Atom). record { head = h; body = b }) empty atoms_are

  pub head_becomes : (facts : List Fact) → length q.head ≡ length row → IsAnswer facts q row
      → Becomes (bound_to head row) head row
  head_becomes facts long answer =
      subst (λ (h : List Term). Becomes (bound_to h row) h row) (sym same_head)
      (answer_becomes facts q row long answer)

  pub row_found : (facts : List Fact) (asked : Cq) (found : Bool)
      → Becomes (bound_to head row) head row
      → asked ≡ bound_query q row → IsTrue found ↔ IsAnswer facts asked [] → IsTrue found
      ↔ IsAnswer facts q row
  row_found facts asked found becomes is tells = (
    λ yes.
        bound_answer facts q row
        (subst (λ (h : List Term). Becomes (bound_to h row) h row) same_head becomes)
        (subst (λ (p : Cq). IsAnswer facts p []) is (tells.0 yes)),
    λ answer.
        tells.1 (subst (λ (p : Cq). IsAnswer facts p []) (sym is)
        (answer_bound facts q row answer)),
  )
