-- Each step of the join adds the rows of its answers.
use Rattle.std.specs.Prelude.{◌≡◌, ℕ, List, [], ◌∷◌, ◌++◌, Option, Some, None, refl, map, ◌⊎◌}
use Rattle.std.specs.Prelude.{MatchOption, IsSome, length, suc}
use Rattle.std.specs.List.{AllByRecursion}
use Rattle.std.proofs.Common.{sym, ◌∙◌, ap, subst, inl, inr, arith}
use Rattle.std.proofs.lemmas.List.Elements.{Contains-append_left, Contains-append_right}
use Rattle.std.proofs.lemmas.List.Elements.{Contains-append_cases}
use Rattle.list_lemmas.proofs.Elements.{Contains-none, Contains-first, Contains-single}
use Rattle.dl_syntax.specs.declared.names.IndId.{IndId}
use Rattle.dl_syntax.specs.declared.facts.Element.{Element}
use Rattle.dl_syntax.specs.declared.facts.Element.TheVariants as element
use Rattle.dl_syntax.specs.declared.facts.Fact.{Fact}
use Rattle.dl_syntax.specs.declared.queries.Term.{Term}
use Rattle.dl_syntax.specs.declared.queries.Term.TheVariants as term
use Rattle.dl_syntax.specs.declared.queries.Atom.{Atom}
use Rattle.dl_syntax.specs.Match.{Assignment, term_at, atom_at}
use Rattle.ucq_join.specs.declared.bindings.Binding.{Binding}
use Rattle.ucq_join.specs.Bindings.{value_of, bind_atom, Extends, IsAssigned}
use Rattle.ucq_join.specs.Gathered.{Gathered, AddsRows}
use Rattle.ucq_join.specs.Partial.{IsCovered, HeadIsCovered, HeadBecomes, IsAnswerFrom, IsAnswerAt}
use Rattle.ucq_join.specs.Partial.{IsAnswerAmong, place_in, place_of, cons_place, row_of}
use Rattle.ucq_join.proofs.Extensions.{Narrows, IsAssigned-keeps, After, bind_atom_law, atom_bound}

pub adds_none : (rows : Gathered) (passes : List IndId → Type 0)
    → ((row : List IndId) → passes row → ⊥) → AddsRows rows rows passes
adds_none rows passes never = record {
  wide = refl;
  kept = λ row h. h;
  added =
      λ row h. absurd (never row h);
  only = λ row h. inl h;
}

pub adds_both :
    (a b c : Gathered) (one two all : List IndId → Type 0) → AddsRows a b one → AddsRows b c two
    → ((row : List IndId) → one row → all row) → ((row : List IndId) → two row → all row)
    → ((row : List IndId) → all row → one row ⊎ two row)
    → AddsRows a c all
adds_both a b c one two all x y first second split = record {
  wide = y.wide ∙ x.wide;
  kept = λ row h. y.kept row (x.kept row h);
  added = λ row h. elim (split row h) [
    | inl p ↦ y.kept row (x.added row p)
    | inr p ↦
        y.added row p
  ];
  only = λ row h. elim (y.only row h) [
    | inl p ↦ elim (x.only row p) [ inl q ↦ inl q | inr q ↦ inr (first row q) ]
    | inr p ↦ inr (second row p)
  ];
}

pub adds_by : (a b : Gathered) (one two : List IndId → Type 0) → AddsRows a b one
    → ((row : List IndId) → one row → two row) → ((row : List IndId) → two row → one row)
    → AddsRows a b two
adds_by a b one two x to from = record {
  wide = x.wide;
  kept = x.kept;
  added = λ row h. x.added row (from row h);
  only = λ row h. elim (x.only row h) [ inl p ↦ inl p | inr p ↦ inr (to row p) ];
}

module _ (facts : List Fact) (head : List Term) (a : Atom) (rest : List Atom) (bs : List Binding)
  where
    -- none among no facts
    pub adds_start : (rows : Gathered) → AddsRows rows rows (IsAnswerAmong facts head a rest bs [])
    adds_start rows = adds_none rows (IsAnswerAmong facts head a rest bs []) (λ row h.
        Contains-none h.0 h.1)

    -- those at one more fact
    pub adds_more :
        (fs : List Fact) (f : Fact) (x y z : Gathered)
        → AddsRows x y (IsAnswerAmong facts head a rest bs fs)
        → AddsRows y z (IsAnswerAt facts head a rest bs f)
        → AddsRows x z (IsAnswerAmong facts head a rest bs (fs ++ f ∷ []))
    adds_more fs f x y z among at =
        adds_both x y z (IsAnswerAmong facts head a rest bs fs) (IsAnswerAt facts head a rest bs f)
        (IsAnswerAmong facts head a rest bs (fs ++ f ∷ [])) among at
        (λ row h. (h.0, Contains-append_left fs (f ∷ []) h.0 h.1, h.2))
        (λ row h. (f, Contains-append_right fs (f ∷ []) f (Contains-first f []), h))
        (λ row h. elim (Contains-append_cases fs (f ∷ []) h.0 h.1) [
          | inl m ↦ inl (h.0, m, h.2)
          | inr m ↦ inr (subst (λ g. IsAnswerAt facts head a rest bs g row)
              (sym (Contains-single f h.0 m)) h.2)
        ])

    -- the answers under the new bindings are those at the fact
    pub adds_bound :
        (f : Fact) (cs : List Binding) → bind_atom bs a f ≡ Some cs → (x y : Gathered)
        → AddsRows x y (IsAnswerFrom facts head rest cs)
        → AddsRows x y (IsAnswerAt facts head a rest bs f)
    adds_bound f cs e x y h =
        let n : Narrows (λ t. atom_at t a ≡ f) bs cs =
        subst (λ o. MatchOption o ((t : Assignment) → Extends bs t → atom_at t a ≡ f
        → ⊥) (Narrows (λ t. atom_at t a ≡ f) bs)) e (bind_atom_law bs a f) in
        adds_by x y (IsAnswerFrom facts head rest cs) (IsAnswerAt facts head a rest bs f) h
        (λ row k. (k.0, n.extends k.0 k.1, n.pass k.0 k.1, k.2, k.3))
        (λ row k. (k.0, n.back k.0 k.1 k.2, k.3, k.4))

    -- there are none where the fact does not fit
    pub adds_refused : (f : Fact) → bind_atom bs a f ≡ None → (x : Gathered)
        → AddsRows x x (IsAnswerAt facts head a rest bs f)
    adds_refused f e x =
        let r : (t : Assignment) → Extends bs t → atom_at t a ≡ f → ⊥ =
        subst (λ o. MatchOption o ((t : Assignment) → Extends bs t → atom_at t a ≡ f
        → ⊥) (Narrows (λ t. atom_at t a ≡ f) bs)) e (bind_atom_law bs a f) in
        adds_none x (IsAnswerAt facts head a rest bs f) (λ row k. r k.0 k.1 k.2)

-- what is bound is covered
pub bound_covered : (cs : List Binding) (rest : List Atom) (x : Term) → IsAssigned cs x
    → IsCovered cs rest x
bound_covered cs [] x h = h
bound_covered cs (a ∷ rest) x h = inr (bound_covered cs rest x h)

covered_keeps : (passes : Assignment → Type 0) (bs cs : List Binding) → Narrows passes bs cs
    → (rest : List Atom) (x : Term) → IsCovered bs rest x → IsCovered cs rest x
covered_keeps passes bs cs n [] x h = IsAssigned-keeps passes bs cs x n h
covered_keeps passes bs cs n (a ∷ rest) x (inl h) = inl h
covered_keeps passes bs cs n (a ∷ rest) x (inr h) = inr (covered_keeps passes bs cs n rest x h)

pub all_weaker : {X : Type 0} (P Q : X → Type 0) → ((x : X) → P x → Q x) → (xs : List X)
    → AllByRecursion P xs → AllByRecursion Q xs
all_weaker P Q h [] all = all
all_weaker P Q h (x ∷ xs) all = (h x all.0, all_weaker P Q h xs all.1)

-- the head stays covered when the first atom is bound
pub covered_rest :
    (bs cs : List Binding) (a : Atom) (f : Fact) (rest : List Atom) (head : List Term)
    → bind_atom bs a f ≡ Some cs
    → HeadIsCovered bs (a ∷ rest) head → HeadIsCovered cs rest head
covered_rest bs cs a f rest head e h =
    let n : Narrows (λ t. atom_at t a ≡ f) bs cs =
    subst (λ o. MatchOption o ((t : Assignment) → Extends bs t → atom_at t a ≡ f
    → ⊥) (Narrows (λ t. atom_at t a ≡ f) bs)) e (bind_atom_law bs a f) in
    all_weaker (IsCovered bs (a ∷ rest)) (IsCovered cs rest) (λ x c. elim c [
      | inl t ↦ bound_covered cs rest x (subst (λ o.
          After o (λ ds. IsAssigned ds x)) e (atom_bound bs a f x t))
      | inr k ↦ covered_keeps (λ t. atom_at t a ≡ f) bs cs n rest x k
    ]) head h

-- the rows of a head
individual_same : (m n : IndId) → element.Ind m ≡ element.Ind n → m ≡ n
individual_same m n h = cc

pub rows_same : (r s : List IndId) → map element.Ind r ≡ map element.Ind s → r ≡ s
rows_same [] [] h = refl
rows_same [] (n ∷ s) h = cc
rows_same (m ∷ r) [] h = cc
rows_same (m ∷ r) (n ∷ s) h =
    let e : element.Ind m ≡ element.Ind n = cc in
    let f : map element.Ind r ≡ map element.Ind s = cc in
    let g : m ≡ n = individual_same m n e in
    ap (λ k. k ∷ r) g ∙ ap (λ q. n ∷ q) (rows_same r s f)

-- what a bound term becomes
place_law :
    (bs : List Binding) (x : Term) → IsAssigned bs x
    → MatchOption (place_of bs x) ((t : Assignment) (n : IndId) → Extends bs t
    → term_at t x ≡ element.Ind n → ⊥) (λ n. (t : Assignment) → Extends bs t
    → term_at t x ≡ element.Ind n)
place_law bs (term.Ind a) b = λ t x. refl
place_law bs (term.Var v) b = at (value_of bs v) refl b where
  at : (o : Option Element) → value_of bs v ≡ o → IsSome o
      → MatchOption (place_in o) ((t : Assignment) (n : IndId) → Extends bs t → t v ≡ element.Ind n
      → ⊥) (λ n. (t : Assignment) → Extends bs t → t v ≡ element.Ind n)
  at None e s = cc
  at (Some (element.Ind a)) e s = λ t x. x.at v (element.Ind a) e
  at (Some (element.Null n)) e s = λ t m x h. let k : t v ≡ element.Null n =
      x.at v (element.Null n) e in cc

cons_law :
    (bs : List Binding) (x : Term) (xs : List Term) (o : Option IndId) (p : Option (List IndId))
    → MatchOption o ((t : Assignment) (n : IndId) → Extends bs t → term_at t x ≡ element.Ind n
    → ⊥) (λ n. (t : Assignment) → Extends bs t → term_at t x ≡ element.Ind n)
    → MatchOption p ((t : Assignment) (row : List IndId) → Extends bs t → HeadBecomes xs t row
    → ⊥) (λ row. (t : Assignment) → Extends bs t → HeadBecomes xs t row)
    → MatchOption (cons_place o p) ((t : Assignment) (row : List IndId) → Extends bs t
    → HeadBecomes (x ∷ xs) t row → ⊥) (λ row. (t : Assignment) → Extends bs t
    → HeadBecomes (x ∷ xs) t row)
cons_law bs x xs None p h k = at where
  at : (t : Assignment) (row : List IndId) → Extends bs t → HeadBecomes (x ∷ xs) t row → ⊥
  at t [] e q = cc
  at t (n ∷ row) e q = let u : term_at t x ≡ element.Ind n = cc in h t n e u
cons_law bs x xs (Some m) None h k = at where
  at : (t : Assignment) (row : List IndId) → Extends bs t → HeadBecomes (x ∷ xs) t row → ⊥
  at t [] e q = cc
  at t (n ∷ row) e q = let u : HeadBecomes xs t row = cc in k t row e u
cons_law bs x xs (Some m) (Some row) h k =
    λ t e. ap (λ z. z ∷ map (term_at t) xs) (h t e) ∙ ap (λ zs. element.Ind m ∷ zs) (k t e)

pub row_law :
    (bs : List Binding) (head : List Term) → HeadIsCovered bs [] head
    → MatchOption (row_of bs head) ((t : Assignment) (row : List IndId) → Extends bs t
    → HeadBecomes head t row → ⊥) (λ row. (t : Assignment) → Extends bs t
    → HeadBecomes head t row)
row_law bs [] h = λ t e. refl
row_law bs (x ∷ xs) h = cons_law bs x xs (place_of bs x) (row_of bs xs) (place_law bs x h.0)
    (row_law bs xs h.1)

-- the row has as many places as the head has terms
cons_length : (o : Option IndId) (p : Option (List IndId)) (row : List IndId) (n : ℕ)
    → ((rest : List IndId) → p ≡ Some rest → length rest ≡ n) → cons_place o p ≡ Some row
    → length row ≡ suc n
cons_length None p row n rest_long h = cc
cons_length (Some m) None row n rest_long h = cc
cons_length (Some m) (Some rest) row n rest_long h =
    let e : m ∷ rest ≡ row = cc in
    ap (λ (r : List IndId). length r) (sym e) ∙ ap suc (rest_long rest refl)

pub row_length : (bs : List Binding) (head : List Term) (row : List IndId)
    → row_of bs head ≡ Some row → length row ≡ length head
row_length bs [] row h = let e : [] ≡ row = cc in ap (λ (r : List IndId). length r) (sym e)
row_length bs (x ∷ xs) row h =
    cons_length (place_of bs x) (row_of bs xs) row (length xs) (row_length bs xs) h

pub nil_from_length : {X : Type 0} (xs : List X) → length xs ≡ 0 → xs ≡ []
nil_from_length [] h = refl
nil_from_length (x ∷ xs) h = absurd (omega arith)
