-- What a search for a match has found so far.
use Rattle.std.specs.Prelude.{◌≡◌, ℕ, List, [], ◌∷◌, ◌++◌, Some, None, refl, ◌↔◌, MatchOption}
use Rattle.std.specs.Prelude.{◌<◌, length, map, Option, IsTrue, is_some, Vec}
use Rattle.std.specs.Global.{Global}
use Rattle.std.proofs.lemmas.List.{take_more}
use Rattle.std.specs.List.{Contains}
use Rattle.std.proofs.Common.{sym, ◌∙◌, ap, subst, inl, inr, arith, drop, drop-cons, add-one, take}
use Rattle.std.proofs.Common.{◌+◌, get_or}
use Rattle.std.proofs.lemmas.List.Elements.{All-nil, All-cons, All-head, All-tail}
use Rattle.std.proofs.lemmas.List.Elements.{Contains-append_cases, Contains-push_cases}
use Rattle.list_lemmas.proofs.Elements.{Contains-single}
use Rattle.dl_syntax.specs.declared.names.IndId.{IndId}
use Rattle.dl_syntax.specs.declared.facts.Element.{Element}
use Rattle.dl_syntax.specs.declared.facts.Element.TheVariants as element
use Rattle.dl_syntax.specs.declared.facts.Fact.{Fact}
use Rattle.dl_syntax.specs.declared.queries.Term.{Term}
use Rattle.dl_syntax.specs.declared.queries.Atom.{Atom}
use Rattle.dl_syntax.specs.declared.queries.Cq.{Cq}
use Rattle.dl_syntax.specs.Match.{Assignment, Match, term_at, atom_at}
use Rattle.query_unify.specs.Laws.{Gives}
use Rattle.proof_search.specs.declared.bindings.Binding.{Binding}
use Rattle.proof_search.specs.Bindings.{bind_term, bind_atom, Extends, assigned_by}
use Rattle.proof_search.specs.Known.{IsComplete}
use Rattle.proof_search.specs.Matching.{HasMatch, HasMatchAt, HasMatchAmong, Binds, BindsAt}
use Rattle.proof_search.specs.Matching.{HeadBecomes, BindsHead, IsMatchedBy}
use Rattle.proof_search.proofs.Extensions.{Extends-assigned, Narrows, bind_atom_law, bind_term_law}

module _ (facts : List Fact) (a : Atom) (rest : List Atom) (bs : List Binding) where
  -- no fact so far serves, and neither does the next
  pub apart_more :
      (fs : List Fact) (f : Fact) → (HasMatchAmong facts a rest bs fs → ⊥)
      → (HasMatchAt facts a rest bs f → ⊥)
      → HasMatchAmong facts a rest bs (fs ++ f ∷ []) → ⊥
  apart_more fs f before here m = elim (Contains-append_cases fs (f ∷ []) m.0 m.1) [
    | inl l ↦ before (m.0, l, m.2)
    | inr r ↦ here (subst (HasMatchAt facts a rest bs) (sym (Contains-single f m.0 r)) m.2)
  ]

  pub apart_none : HasMatchAmong facts a rest bs [] → ⊥
  apart_none m = absurd (omega (arith, m.1.1))

  pub match_among : (fs : List Fact) → IsComplete bs a facts fs → HasMatch facts (a ∷ rest) bs
      → HasMatchAmong facts a rest bs fs
  match_among fs complete m = (
    atom_at m.0 a,
    complete m.0 m.1 (All-head (λ b. Contains facts (atom_at m.0 b)) a rest m.2),
    (m.0, m.1, refl, All-tail (λ b. Contains facts (atom_at m.0 b)) a rest m.2),
  )

  pub binds_from : (f : Fact) (cs : List Binding) → Contains facts f → BindsAt facts a rest f bs cs
      → Binds facts (a ∷ rest) bs cs
  binds_from f cs there bound = λ t x. let three : Extends bs t × (atom_at t a ≡ f)
      × Match rest facts t = bound t x in (
        three.0,
        All-cons (λ b. Contains facts (atom_at t b)) a rest
            (subst (Contains facts) (sym three.1) there) three.2,
      )

  narrowed : (f : Fact) (cs : List Binding) → bind_atom bs a f ≡ Some cs
      → Narrows (λ t. atom_at t a ≡ f) bs cs
  narrowed f cs e =
      subst (λ o. MatchOption o ((t : Assignment) → Extends bs t → atom_at t a ≡ f
      → ⊥) (Narrows (λ t. atom_at t a ≡ f) bs)) e (bind_atom_law bs a f)

  pub binds_first : (f : Fact) (cs ds : List Binding) → bind_atom bs a f ≡ Some cs
      → Binds facts rest cs ds → BindsAt facts a rest f bs ds
  binds_first f cs ds e bound = λ t x.
      let n = narrowed f cs e in
      let two : Extends cs t × Match rest facts t = bound t x in
      (n.extends t two.0, n.pass t two.0, two.1)

  pub match_bound : (f : Fact) (cs : List Binding) → bind_atom bs a f ≡ Some cs
      → HasMatchAt facts a rest bs f → HasMatch facts rest cs
  match_bound f cs e m = let n = narrowed f cs e in (m.0, n.back m.0 m.1 m.2, m.3)

  pub match_refused : (f : Fact) → bind_atom bs a f ≡ None → HasMatchAt facts a rest bs f → ⊥
  match_refused f e m =
      let r : (t : Assignment) → Extends bs t → atom_at t a ≡ f → ⊥ =
      subst (λ o. MatchOption o ((t : Assignment) → Extends bs t → atom_at t a ≡ f
      → ⊥) (Narrows (λ t. atom_at t a ≡ f) bs)) e (bind_atom_law bs a f) in
      r m.0 m.1 m.2

-- each assignment is a match of an empty body
pub binds_nil : (facts : List Fact) (bs : List Binding) → Binds facts [] bs bs
binds_nil facts bs = λ t x. (x, All-nil (λ b. Contains facts (atom_at t b)))

-- the head becomes the row exactly under the assignments that extend the bindings and by which the
-- terms that are left become the individuals that are left
abbrev pub BindsFront : List Term → List IndId → ℕ → List Binding → Type 0
BindsFront head row k bs = (t : Assignment)
    → (Extends bs t → HeadBecomes (drop k head) (drop k row) t → HeadBecomes head row t)
    × (HeadBecomes head row t → Extends bs t × HeadBecomes (drop k head) (drop k row) t)

pub binds_no_front : (head : List Term) (row : List IndId) → BindsFront head row 0 []
binds_no_front head row = λ t. (λ x h. h, λ h. (record { at = λ v e k. cc }, h))

module _ (head : List Term) (row : List IndId) (k : ℕ) (bs : List Binding) (x : Term) (i : IndId)
    (terms : drop k head ≡ x ∷ drop (k + 1) head) (ids : drop k row ≡ i ∷ drop (k + 1) row)
    (front : BindsFront head row k bs) where
  split : (t : Assignment) → HeadBecomes (drop k head) (drop k row) t
      → (term_at t x ≡ element.Ind i) × HeadBecomes (drop (k + 1) head) (drop (k + 1) row) t
  split t h =
      let both : (term_at t x ∷ map (term_at t) (drop (k + 1) head))
      ≡ (element.Ind i ∷ map element.Ind (drop (k + 1) row)) =
      sym (ap (map (term_at t)) terms) ∙ h ∙ ap (map element.Ind) ids in
      (cc, cc)

  joined : (t : Assignment) → term_at t x ≡ element.Ind i
      → HeadBecomes (drop (k + 1) head) (drop (k + 1) row) t
      → HeadBecomes (drop k head) (drop k row) t
  joined t one rest =
      ap (map (term_at t)) terms
      ∙ ap (λ (e : Element). e ∷ map (term_at t) (drop (k + 1) head)) one
      ∙ ap (λ (es : List Element). element.Ind i ∷ es) rest
      ∙ sym (ap (map element.Ind) ids)

  pub binds_more : (cs : List Binding) → bind_term bs x (element.Ind i) ≡ Some cs
      → BindsFront head row (k + 1) cs
  binds_more cs e = λ t. (
    λ extends rest. (front t).0 (n.extends t extends) (joined t (n.pass t extends) rest),
    λ h. let two = (front t).1 h in
        let both = split t two.1 in
        (n.back t two.0 both.0, both.1),
  )
    where
      n : Narrows (λ t. term_at t x ≡ element.Ind i) bs cs
      n = subst (λ o. MatchOption o ((t : Assignment) → Extends bs t → term_at t x ≡ element.Ind i
          → ⊥) (Narrows (λ t. term_at t x ≡ element.Ind i) bs)) e
          (bind_term_law bs x (element.Ind i))

  pub binds_none : bind_term bs x (element.Ind i) ≡ None → (t : Assignment)
      → HeadBecomes head row t → ⊥
  binds_none e t h =
      let r : (t : Assignment) → Extends bs t → term_at t x ≡ element.Ind i → ⊥ =
      subst (λ o. MatchOption o ((t : Assignment) → Extends bs t → term_at t x ≡ element.Ind i
      → ⊥) (Narrows (λ t. term_at t x ≡ element.Ind i) bs)) e
      (bind_term_law bs x (element.Ind i)) in
      let two = (front t).1 h in
      r t two.0 (split t two.1).0

pub binds_head : (head : List Term) (row : List IndId) (k : ℕ) (bs : List Binding)
    → drop k head ≡ [] → drop k row ≡ [] → BindsFront head row k bs → BindsHead head row bs
binds_head head row k bs terms ids front = λ t. (
  λ x. (front t).0 x (ap (map (term_at t)) terms ∙ sym (ap (map element.Ind) ids)),
  λ h. ((front t).1 h).0,
)

module _ (q : Cq) (facts : List Fact) (row : List IndId) where
  pub not_headed : ((t : Assignment) → HeadBecomes q.head row t → ⊥)
      → Gives q facts (map element.Ind row) → ⊥
  not_headed none given = none given.assignment given.head

  pub not_matched : (bs : List Binding) → BindsHead q.head row bs → (HasMatch facts q.body bs → ⊥)
      → Gives q facts (map element.Ind row) → ⊥
  not_matched bs bound none given =
      none (given.assignment, (bound given.assignment).1 given.head, given.match)

  pub matched : (bs cs : List Binding) → BindsHead q.head row bs → Binds facts q.body bs cs
      → IsMatchedBy q facts row cs
  matched bs cs bound found =
      let both : Extends bs (assigned_by cs) × Match q.body facts (assigned_by cs) =
      found (assigned_by cs) (Extends-assigned cs) in
      record { match = both.1; head = (bound (assigned_by cs)).0 both.0 }

  pub given_by : (bs : List Binding) → IsMatchedBy q facts row bs
      → Gives q facts (map element.Ind row)
  given_by bs is = record { assignment = assigned_by bs; match = is.match; head = is.head }

-- the next term of the head
module _ (head : List Term) (row : List IndId) (k : ℕ) (bs : List Binding) (d : Term) (e : IndId)
    (within : k < length head) (same : length head ≡ length row)
    (front : BindsFront head row k bs) where
  terms_cut : drop k head ≡ get_or head k d ∷ drop (k + 1) head
  terms_cut = rw add-one (drop-cons head k d within)

  ids_cut : drop k row ≡ get_or row k e ∷ drop (k + 1) row
  ids_cut = rw add-one (drop-cons row k e (omega arith))

  pub more_at : (cs : List Binding)
      → bind_term bs (get_or head k d) (element.Ind (get_or row k e)) ≡ Some cs
      → BindsFront head row (k + 1) cs
  more_at cs bound = binds_more head row k bs (get_or head k d) (get_or row k e) terms_cut ids_cut
      front cs bound

  pub none_at : bind_term bs (get_or head k d) (element.Ind (get_or row k e)) ≡ None
      → (t : Assignment) → HeadBecomes head row t → ⊥
  none_at refused t h = binds_none head row k bs (get_or head k d) (get_or row k e) terms_cut
      ids_cut front refused t h

-- whether a match was found
pub decided : (q : Cq) (facts : List Fact) (row : List IndId) (found : Option (Vec Binding Global))
    → MatchOption found (Gives q facts (map element.Ind row) → ⊥) (λ bs.
    IsMatchedBy q facts row bs.items)
    → IsTrue (is_some found) ↔ Gives q facts (map element.Ind row)
decided q facts row None none = (λ yes. absurd (cc), λ given. absurd (none given))
decided q facts row (Some bs) is = (λ yes. given_by q facts row bs.items is, λ given. refl)

-- the front of the list that lacks an element
pub absent_more : {X : Type 0} (xs : List X) (k : ℕ) (d x : X) → k < length xs
    → (Contains (take k xs) x → ⊥) → (get_or xs k d ≡ x → ⊥) → Contains (take (k + 1) xs) x → ⊥
absent_more {X} xs k d x within before here there =
    elim (Contains-push_cases (take k xs) (get_or xs k d) x
    (subst (λ (ys : List X). Contains ys x) (take_more xs k d within) there)) [
      | inl early ↦ before early
      | inr same ↦ here same
    ]
