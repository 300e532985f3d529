-- Whether some match extends a partial assignment, and facts that serve an atom.
use Rattle.std.specs.Prelude.{◌≡◌, ℕ, List, [], ◌∷◌, ◌++◌, Some, None, refl, ◌⊎◌, ◌↔◌, MatchOption}
use Rattle.std.specs.Prelude.{IsSome, length, Bool, true, map, ◌<◌}
use Rattle.std.specs.List.{AllByRecursion, filter, Contains}
use Rattle.std.proofs.Common.{sym, ◌∙◌, ap, subst, inl, inr, eq-eqb, get_or}
use Rattle.std.proofs.lemmas.List.Elements.{All-nil, All-cons, All-head, All-tail, All-weaker}
use Rattle.std.proofs.lemmas.List.Elements.{All-contains, All-from_recursion, recursion_from_All}
use Rattle.std.proofs.lemmas.List.Elements.{Contains-append_left, Contains-append_right}
use Rattle.std.proofs.lemmas.List.Elements.{Contains-append_cases}
use Rattle.std.proofs.lemmas.List.Sorted.{All-permutation, Contains-permutation, IsPermutation-sym}
use Rattle.std.specs.List.Sorted.{IsPermutation}
use Rattle.list_lemmas.proofs.Elements.{Contains-none, Contains-first, Contains-later}
use Rattle.list_lemmas.proofs.Elements.{Contains-cons_cases, Contains-single}
use Rattle.list_lemmas.proofs.Filters.{Contains-filter}
use Rattle.dl_syntax.specs.declared.facts.Element.{Element}
use Rattle.dl_syntax.specs.declared.facts.Element.TheVariants as element
use Rattle.dl_syntax.specs.declared.facts.Fact.{Fact}
use Rattle.dl_syntax.specs.declared.facts.Fact.TheVariants as fact
use Rattle.dl_syntax.specs.declared.queries.Term.{Term}
use Rattle.dl_syntax.specs.declared.queries.Term.TheVariants as term
use Rattle.dl_syntax.specs.declared.queries.Atom.{Atom}
use Rattle.dl_syntax.specs.declared.queries.Atom.TheVariants as atom
use Rattle.dl_syntax.specs.declared.queries.Cq.{Cq}
use Rattle.dl_syntax.specs.declared.names.ConceptId.{ConceptId}
use Rattle.dl_syntax.specs.declared.names.RoleId.{RoleId}
use Rattle.dl_syntax.specs.declared.names.IndId.{IndId}
use Rattle.dl_syntax.specs.Rows.{Relation}
use Rattle.dl_syntax.specs.Match.{Assignment, Match, term_at, atom_at}
use Rattle.dl_syntax.specs.Queries.{HasTerm, IsBound, IsQuery}
use Rattle.fact_index.specs.Order.{is_of_concept, is_of_role, first_of, last_of, element_eq}
use Rattle.fact_index.proofs.Orders.{element_eq-refl}
use Rattle.ucq_join.specs.declared.bindings.Binding.{Binding}
use Rattle.ucq_join.specs.Bindings.{element_of, bind_atom, Extends, IsAssigned}
use Rattle.ucq_join.specs.Answers.{IsAnswer, IsUnionAnswer}
use Rattle.ucq_join.specs.Gathered.{Gathered, HasRow, AddsRows}
use Rattle.ucq_join.specs.Partial.{IsCovered, HeadIsCovered, HeadBecomes, IsAnswerFrom}
use Rattle.ucq_join.specs.Partial.{IsAnswerAmong, HasMatch, HasMatchAt, HasMatchAmong, IsComplete}
use Rattle.ucq_join.specs.Partial.{row_of}
use Rattle.ucq_join.proofs.Extensions.{Extends-some, some_extension, Narrows, bind_atom_law}
use Rattle.ucq_join.proofs.Adding.{adds_by, adds_none, bound_covered, row_law, rows_same}
use Rattle.ucq_join.proofs.Adding.{all_weaker}

-- run keeps, of the facts, those that pass, and nothing else
pub record Keeps (facts run : List Fact) (passes : Fact → Type 0) : Type 0 where
  pub within : (f : Fact) → Contains run f → Contains facts f
  pub kept : (f : Fact) → Contains facts f → passes f → Contains run f

pub keeps_members : (p : Fact → Bool) (facts run : List Fact)
    → ((f : Fact) → Contains run f ↔ Contains (filter p facts) f)
    → Keeps facts run (λ f. p f ≡ true)
keeps_members p facts run same = record {
  within = λ f h. ((Contains-filter p facts f).0 ((same f).0 h)).0;
  kept = λ f h t. (same f).1 ((Contains-filter p facts f).1 (h, t));
}

pub keeps_filter : (p : Fact → Bool) (facts run : List Fact) → run ≡ filter p facts
    → Keeps facts run (λ f. p f ≡ true)
keeps_filter p facts run e = record {
  within = λ f h. ((Contains-filter p facts f).0 (subst (λ (ys : List Fact). Contains ys f) e h)).0;
  kept = λ f h t. subst (λ (ys : List Fact).
      Contains ys f) (sym e) ((Contains-filter p facts f).1 (h, t));
}

pub keeps_then : (facts run part : List Fact) (one two : Fact → Type 0) → Keeps facts run one
    → Keeps run part two → Keeps facts part (λ f. one f × two f)
keeps_then facts run part one two x y = record {
  within = λ f h. x.within f (y.within f h);
  kept = λ f h p. y.kept f (x.kept f h p.0) p.1;
}

pub element_of_under : (bs : List Binding) (x : Term) (e : Element) (t : Assignment)
    → element_of bs x ≡ Some e → Extends bs t → term_at t x ≡ e
element_of_under bs (term.Ind a) e t h x = cc
element_of_under bs (term.Var v) e t h x = x.at v e h

at_element : (u e : Element) → u ≡ e → element_eq u e ≡ true
at_element u e h = ap (λ z. element_eq z e) h ∙ element_eq-refl e

module _ (bs : List Binding) (facts part : List Fact) where
  pub concept_at : (c : ConceptId) (x : Term) (e : Element) → element_of bs x ≡ Some e
      → Keeps facts part (λ f. (is_of_concept c f ≡ true) × (element_eq (first_of f) e ≡ true))
      → IsComplete bs (atom.Concept c x) facts part
  concept_at c x e h k t ext m =
      k.kept (atom_at t (atom.Concept c x)) m
      (eq-eqb c.0 c.0 refl, at_element (term_at t x) e (element_of_under bs x e t h ext))

  pub concept_all : (c : ConceptId) (x : Term) → Keeps facts part (λ f. is_of_concept c f ≡ true)
      → IsComplete bs (atom.Concept c x) facts part
  concept_all c x k t ext m = k.kept (atom_at t (atom.Concept c x)) m (eq-eqb c.0 c.0 refl)

  pub role_at_first : (p : RoleId) (x y : Term) (e : Element) → element_of bs x ≡ Some e
      → Keeps facts part (λ f. (is_of_role p f ≡ true) × (element_eq (first_of f) e ≡ true))
      → IsComplete bs (atom.Role p x y) facts part
  role_at_first p x y e h k t ext m =
      k.kept (atom_at t (atom.Role p x y)) m
      (eq-eqb p.0 p.0 refl, at_element (term_at t x) e (element_of_under bs x e t h ext))

  pub role_at_last : (p : RoleId) (x y : Term) (e : Element) → element_of bs y ≡ Some e
      → Keeps facts part (λ f. (is_of_role p f ≡ true) × (element_eq (last_of f) e ≡ true))
      → IsComplete bs (atom.Role p x y) facts part
  role_at_last p x y e h k t ext m =
      k.kept (atom_at t (atom.Role p x y)) m
      (eq-eqb p.0 p.0 refl, at_element (term_at t y) e (element_of_under bs y e t h ext))

  pub role_all : (p : RoleId) (x y : Term) → Keeps facts part (λ f. is_of_role p f ≡ true)
      → IsComplete bs (atom.Role p x y) facts part
  role_all p x y k t ext m = k.kept (atom_at t (atom.Role p x y)) m (eq-eqb p.0 p.0 refl)

  pub role_at_both : (p : RoleId) (x y : Term) (d e : Element) → element_of bs x ≡ Some d
      → element_of bs y ≡ Some e → ((f : Fact)
      → Contains part f ↔ (Contains facts f × (f ≡ fact.Role p d e)))
      → IsComplete bs (atom.Role p x y) facts part
  role_at_both p x y d e h g k t ext m = (k (atom_at t (atom.Role p x y))).1 (
    m,
    ap (λ u. fact.Role p u (term_at t y)) (element_of_under bs x d t h ext) ∙ ap (λ u.
        fact.Role p d u) (element_of_under bs y e t g ext),
  )

module _ (facts : List Fact) (a : Atom) (rest : List Atom) (bs : List Binding) where
  pub apart_more :
      (fs : List Fact) (f : Fact) → (HasMatchAmong facts a rest bs fs → ⊥)
      → (HasMatchAt facts a rest bs f → ⊥)
      → HasMatchAmong facts a rest bs (fs ++ f ∷ []) → ⊥
  apart_more fs f before here m = elim (Contains-append_cases fs (f ∷ []) m.0 m.1) [
    | inl l ↦ before (m.0, l, m.2)
    | inr r ↦ here (subst (HasMatchAt facts a rest bs) (sym (Contains-single f m.0 r)) m.2)
  ]

  -- a match of the body by its first atom
  first_matches : (t : Assignment) → Match (a ∷ rest) facts t → Contains facts (atom_at t a)
  first_matches t m = All-head (λ b. Contains facts (atom_at t b)) a rest m

  rest_matches : (t : Assignment) → Match (a ∷ rest) facts t → Match rest facts t
  rest_matches t m = All-tail (λ b. Contains facts (atom_at t b)) a rest m

  both_match : (t : Assignment) → Contains facts (atom_at t a) → Match rest facts t
      → Match (a ∷ rest) facts t
  both_match t h m = All-cons (λ b. Contains facts (atom_at t b)) a rest h m

  pub match_among : (fs : List Fact) → IsComplete bs a facts fs → HasMatch facts (a ∷ rest) bs
      → HasMatchAmong facts a rest bs fs
  match_among fs complete m = (
    atom_at m.0 a,
    complete m.0 m.1 (first_matches m.0 m.2),
    (m.0, m.1, refl, rest_matches m.0 m.2),
  )

  pub match_from : (fs : List Fact) → ((f : Fact) → Contains fs f → Contains facts f) → (f : Fact)
      → Contains fs f → HasMatchAt facts a rest bs f → HasMatch facts (a ∷ rest) bs
  match_from fs within f h m =
      (m.0, m.1, both_match m.0 (subst (Contains facts) (sym m.2) (within f h)) m.3)

  narrowed : (f : Fact) (cs : List Binding) → bind_atom bs a f ≡ Some cs
      → Narrows (λ t. atom_at t a ≡ f) bs cs
  narrowed f cs e =
      subst (λ o. MatchOption o ((t : Assignment) → Extends bs t → atom_at t a ≡ f
      → ⊥) (Narrows (λ t. atom_at t a ≡ f) bs)) e (bind_atom_law bs a f)

  pub match_bound : (f : Fact) (cs : List Binding) → bind_atom bs a f ≡ Some cs
      → HasMatch facts rest cs ↔ HasMatchAt facts a rest bs f
  match_bound f cs e =
      let n = narrowed f cs e in
      ((λ m. (m.0, n.extends m.0 m.1, n.pass m.0 m.1, m.2)), (λ m. (m.0, n.back m.0 m.1 m.2, m.3)))

  pub match_refused : (f : Fact) → bind_atom bs a f ≡ None → HasMatchAt facts a rest bs f → ⊥
  match_refused f e m =
      let r : (t : Assignment) → Extends bs t → atom_at t a ≡ f → ⊥ =
      subst (λ o. MatchOption o ((t : Assignment) → Extends bs t → atom_at t a ≡ f
      → ⊥) (Narrows (λ t. atom_at t a ≡ f) bs)) e (bind_atom_law bs a f) in
      r m.0 m.1 m.2

  -- the answers among the candidates are all
  pub adds_candidates :
      (head : List Term) (fs : List Fact) → ((f : Fact) → Contains fs f → Contains facts f)
      → IsComplete bs a facts fs
      → (x y : Gathered) → AddsRows x y (IsAnswerAmong facts head a rest bs fs)
      → AddsRows x y (IsAnswerFrom facts head (a ∷ rest) bs)
  adds_candidates head fs within complete x y h =
      adds_by x y (IsAnswerAmong facts head a rest bs fs) (IsAnswerFrom facts head (a ∷ rest) bs) h
      (λ row k. let g = k.2 in
      (g.0, g.1, both_match g.0 (subst (Contains facts) (sym g.2) (within k.0 k.1)) g.3, g.4))
      (λ row k. (
        atom_at k.0 a,
        complete k.0 k.1 (first_matches k.0 k.2),
        (k.0, k.1, refl, rest_matches k.0 k.2, k.3),
      ))

-- the match of an empty body
pub match_nil : (facts : List Fact) (bs : List Binding) → HasMatch facts [] bs
match_nil facts bs = (
  some_extension bs,
  Extends-some bs,
  All-nil (λ b.
      Contains facts (atom_at (some_extension bs) b)),
)

-- under a bound head there is one row, where there is a match
module _ (facts : List Fact) (head : List Term) (body : List Atom) (bs : List Binding)
    (bound : AllByRecursion (IsAssigned bs) head) where
  head_covered : HeadIsCovered bs [] head
  head_covered = all_weaker (IsAssigned bs) (IsCovered bs []) (λ x h. h) head bound

  row_match : (row : List IndId) → row_of bs head ≡ Some row → (t : Assignment) → Extends bs t
      → HeadBecomes head t row
  row_match row e =
      subst (λ o. MatchOption o ((t : Assignment) (row : List IndId) → Extends bs t
      → HeadBecomes head t row → ⊥) (λ row. (t : Assignment) → Extends bs t
      → HeadBecomes head t row)) e (row_law bs head head_covered)

  pub answer_is : (row : List IndId) → row_of bs head ≡ Some row → (other : List IndId)
      → IsAnswerFrom facts head body bs other → other ≡ row
  answer_is row e other k = rows_same other row (sym k.3 ∙ row_match row e k.0 k.1)

  pub answer_at : (row : List IndId) → row_of bs head ≡ Some row → HasMatch facts body bs
      → (other : List IndId) → other ≡ row → IsAnswerFrom facts head body bs other
  answer_at row e m other s =
      (m.0, m.1, m.2, row_match row e m.0 m.1 ∙ ap (map element.Ind) (sym s))

  pub answer_none : row_of bs head ≡ None → (other : List IndId)
      → IsAnswerFrom facts head body bs other → ⊥
  answer_none e other k =
      let law : (t : Assignment) (row : List IndId) → Extends bs t → HeadBecomes head t row → ⊥ =
      subst (λ o. MatchOption o ((t : Assignment) (row : List IndId) → Extends bs t
      → HeadBecomes head t row → ⊥) (λ row. (t : Assignment) → Extends bs t
      → HeadBecomes head t row)) e (row_law bs head head_covered) in
      law k.0 other k.1 k.3

  -- no match, no row
  pub adds_unmatched : (x : Gathered) → (HasMatch facts body bs → ⊥)
      → AddsRows x x (IsAnswerFrom facts head body bs)
  adds_unmatched x never = adds_none x (IsAnswerFrom facts head body bs) (λ row k.
      never (k.0, k.1, k.2))

  -- the row of a match
  pub adds_match : (x y : Gathered) (row : List IndId) → row_of bs head ≡ Some row
      → HasMatch facts body bs → AddsRows x y (λ other. other ≡ row)
      → AddsRows x y (IsAnswerFrom facts head body bs)
  adds_match x y row e m h = adds_by x y (λ other. other
      ≡ row) (IsAnswerFrom facts head body bs) h (λ other s. answer_at row e m other s) (λ other k.
      answer_is row e other k)

-- whether a term is bound shows in its element
pub bound_some : (bs : List Binding) (x : Term) → IsSome (element_of bs x) → IsAssigned bs x
bound_some bs (term.Ind a) h = tt
bound_some bs (term.Var v) h = h

pub some_bound : (bs : List Binding) (x : Term) → IsAssigned bs x → IsSome (element_of bs x)
some_bound bs (term.Ind a) h = refl
some_bound bs (term.Var v) h = h

pub all_push : {X : Type 0} (P : X → Type 0) (xs : List X) (x : X) → AllByRecursion P xs → P x
    → AllByRecursion P (xs ++ x ∷ [])
all_push P [] x all h = (h, tt)
all_push P (y ∷ ys) x all h = (all.0, all_push P ys x all.1 h)

pub all_at : {X : Type 0} (P : X → Type 0) (xs : List X) (i : ℕ) (d : X) → i < length xs
    → AllByRecursion P xs → P (get_or xs i d)
all_at P xs i d lt all = All-from_recursion P xs all i d lt

-- another order of the atoms
match_permuted : (facts : List Fact) (body atoms : List Atom) (t : Assignment)
    → IsPermutation body atoms → Match body facts t → Match atoms facts t
match_permuted facts body atoms t p m =
    All-permutation (λ a. Contains facts (atom_at t a)) body atoms p m

pub covered_member : (bs : List Binding) (atoms : List Atom) (x : Term) (a : Atom)
    → Contains atoms a → HasTerm a x → IsCovered bs atoms x
covered_member bs [] x a m h = absurd (Contains-none a m)
covered_member bs (b ∷ atoms) x a m h = elim (Contains-cons_cases b atoms a m) [
  | inl e ↦ inl (subst (λ c. HasTerm c x) (sym e) h)
  | inr k ↦ inr (covered_member bs atoms x a k h)
]

pub covered_cases : (bs : List Binding) (atoms : List Atom) (x : Term) → IsCovered bs atoms x
    → IsAssigned bs x ⊎ ((a : Atom) × Contains atoms a × HasTerm a x)
covered_cases bs [] x h = inl h
covered_cases bs (b ∷ atoms) x (inl h) = inr (b, Contains-first b atoms, h)
covered_cases bs (b ∷ atoms) x (inr h) =
    elim (covered_cases bs atoms x h) [
      | inl k ↦ inl k
      | inr k ↦
          inr (k.0, Contains-later b atoms k.0 k.1, k.2)
    ]

pub covered_permuted : (bs : List Binding) (body atoms : List Atom) (head : List Term)
    → IsPermutation body atoms → HeadIsCovered bs body head → HeadIsCovered bs atoms head
covered_permuted bs body atoms head p h =
    all_weaker (IsCovered bs body) (IsCovered bs atoms) (λ x c. elim (covered_cases bs body x c) [
      | inl k ↦ bound_covered bs atoms x k
      | inr k ↦ covered_member bs atoms x k.0 (Contains-permutation body atoms k.0 p k.1) k.2
    ]) head h

pub adds_permuted :
    (facts : List Fact) (head : List Term) (body atoms : List Atom) (bs : List Binding)
    (x y : Gathered) → IsPermutation body atoms
    → AddsRows x y (IsAnswerFrom facts head atoms bs)
    → AddsRows x y (IsAnswerFrom facts head body bs)
adds_permuted facts head body atoms bs x y p h =
    adds_by x y (IsAnswerFrom facts head atoms bs) (IsAnswerFrom facts head body bs) h
    (λ row k. (
      k.0,
      k.1,
      match_permuted facts atoms body k.0 (IsPermutation-sym body atoms p) k.2,
      k.3,
    ))
    (λ row k. (k.0, k.1, match_permuted facts body atoms k.0 p k.2, k.3))

-- the head of a query is covered by its body
term_covered : (body : List Atom) (x : Term) → IsBound body x → IsCovered [] body x
term_covered body (term.Ind a) h = bound_covered [] body (term.Ind a) tt
term_covered body (term.Var v) (k, a, below, is, has) =
    covered_member [] body (term.Var v) a (k, below, is) has

pub query_covered : (q : Cq) → IsQuery q → HeadIsCovered [] q.body q.head
query_covered q h = recursion_from_All (IsCovered [] q.body) q.head
    (All-weaker (IsBound q.body) (IsCovered [] q.body) (term_covered q.body) q.head h.head_bound)

-- what an empty assignment leads to is the query's own
pub own_answer : (facts : List Fact) (q : Cq) (row : List IndId)
    → IsAnswerFrom facts q.head q.body [] row → IsAnswer facts q row
own_answer facts q row k = record { assignment = k.0; match = k.2; head = k.3 }

pub answer_from : (facts : List Fact) (q : Cq) (row : List IndId) → IsAnswer facts q row
    → IsAnswerFrom facts q.head q.body [] row
answer_from facts q row h = (h.assignment, record { at = λ v e k. cc }, h.match, h.head)

-- one more member of the union
pub union_more :
    (facts : List Fact) (us : List Cq) (q : Cq) (x y : Gathered)
    → ((row : List IndId) → HasRow x.runs row ↔ IsUnionAnswer facts us row)
    → AddsRows x y (IsAnswerFrom facts q.head q.body [])
    → (row : List IndId) → HasRow y.runs row ↔ IsUnionAnswer facts (us ++ q ∷ []) row
union_more facts us q x y so_far added row = (
  (λ h. elim (added.only row h) [
    | inl k ↦ let u = (so_far row).0 k in (u.0, Contains-append_left us (q ∷ []) u.0 u.1, u.2)
    | inr k ↦ (
      q,
      Contains-append_right us (q ∷ []) q (Contains-first q []),
      own_answer facts q row
          k,
    )
  ]),
  (λ u. elim (Contains-append_cases us (q ∷ []) u.0 u.1) [
    | inl m ↦ added.kept row ((so_far row).1 (u.0, m, u.2))
    | inr m ↦ added.added row (answer_from facts q row
        (subst (λ p. IsAnswer facts p row) (sym (Contains-single q u.0 m)) u.2))
  ]),
)

-- without a candidate for one of its atoms a body has no match
pub no_match : (facts : List Fact) (body : List Atom) (a : Atom) (fs : List Fact) → Contains body a
    → IsComplete [] a facts fs → fs ≡ [] → (t : Assignment) → Match body facts t → ⊥
no_match facts body a fs m complete e t match =
    let found : Contains fs (atom_at t a) =
    complete t (record { at = λ v d k. cc })
    (All-contains (λ b. Contains facts (atom_at t b)) body a match m) in
    Contains-none (atom_at t a) (subst (λ (ys : List Fact). Contains ys (atom_at t a)) e found)

-- before the first member there is no row
pub no_rows : (n : ℕ) (facts : List Fact) (row : List IndId)
    → HasRow (record { arity = n; rows = [] } ∷ []) row ↔ IsUnionAnswer facts [] row
no_rows n facts row = (
  λ h. absurd (Contains-none row (subst (λ (r : Relation).
      Contains r.rows row) (sym (Contains-single (record { arity = n; rows = [] }) h.0 h.1)) h.2)),
  λ u. absurd (Contains-none u.0 u.1),
)
