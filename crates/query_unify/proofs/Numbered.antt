-- Queries whose variables are numbered in order.
use Rattle.std.proofs.Common.{◌≡◌, ◌==◌, ℕ, zero, suc, true, ◌+◌, ◌<◌, ◌≤◌, List, [], ◌∷◌, ◌++◌}
use Rattle.std.proofs.Common.{length, map, get_or, refl, sym, ◌∙◌, ap, ap₂, subst, arith, inl, inr}
use Rattle.std.proofs.Common.{length-append}
use Rattle.std.specs.Prelude.{◌⊎◌, Option, Some, None, IfSome, is_some}
use Rattle.std.specs.List.{All, Contains}
use Rattle.std.proofs.lemmas.Bool.{eqb-true, cases_lt}
use Rattle.std.proofs.lemmas.List.{get_or_append_left}
use Rattle.std.proofs.lemmas.List.Elements.{All-head, All-tail, All-weaker, All-contains_itself}
use Rattle.std.proofs.Math.Seq.{get_or-append_seam}
use Rattle.dl_syntax.specs.declared.queries.Term.{Term}
use Rattle.dl_syntax.specs.declared.queries.Term.TheVariants.{Var, Ind}
use Rattle.dl_syntax.specs.declared.queries.Atom.{Atom}
use Rattle.dl_syntax.specs.declared.queries.Atom.TheVariants as atom
use Rattle.dl_syntax.specs.declared.queries.Cq.{Cq}
use Rattle.query_unify.specs.Substitution.{applied, applied_atom}
use Rattle.query_unify.specs.Normal.{first_places, distinct, numbers, place_in, places}
use Rattle.query_unify.specs.Normal.{variables_of, terms_of, variables, numbering, normalise}
use Rattle.query_unify.specs.Normal.{same_atom}
use Rattle.list_lemmas.proofs.Elements.{All-front, All-back}
use Rattle.query_unify.proofs.NormalForm.{All-from_first_places}
use Rattle.query_unify.proofs.Renaming.{variables_of-append}
use Rattle.query_unify.proofs.FirstPlaces.{distinct-again, distinct-new, place_in-at}

pub length-numbers : (n : ℕ) → length (numbers n) ≡ n
length-numbers zero = refl
length-numbers (suc n) = omega (arith, length-append (numbers n) (n ∷ []), length-numbers n)

last_number : (n k d : ℕ) → n ≤ k → k < suc n → get_or (numbers n ++ n ∷ []) k d ≡ k
last_number n k d late below =
    let same : k ≡ length (numbers n) = omega (arith, length-numbers n) in
    let here : n ≡ k = omega arith in
    ap (λ (i : ℕ). get_or (numbers n ++ n ∷ []) i d) same ∙ get_or-append_seam (numbers n) n []
    d ∙ here

pub numbers-at : (n k d : ℕ) → k < n → get_or (numbers n) k d ≡ k
numbers-at zero k d below = absurd (omega arith)
numbers-at (suc n) k d below = at (cases_lt k n) (λ early. numbers-at n k d early)
  where
    at : (k < n) ⊎ (n ≤ k) → (k < n → get_or (numbers n) k d ≡ k)
        → get_or (numbers n ++ n ∷ []) k d ≡ k
    at (inl early) further =
        get_or_append_left (numbers n) (n ∷ []) d k (omega (arith, length-numbers n)) ∙ further
        early
    at (inr late) further = last_number n k d late below

Contains-numbers : (n v : ℕ) → v < n → Contains (numbers n) v
Contains-numbers n v below = (v, omega (arith, length-numbers n), numbers-at n v v below)

numbers-below : (n v : ℕ) → Contains (numbers n) v → v < n
numbers-below n v (k, below, is) =
    let early : k < n = omega (arith, length-numbers n) in
    let same : k ≡ v = sym (numbers-at n k v early) ∙ is in
    omega arith

-- a number that was there leaves the count
pub number-again : (count v : ℕ) (before : List ℕ) → v < count → distinct before ≡ numbers count
    → distinct (before ++ v ∷ []) ≡ numbers count
number-again count v before below is =
    distinct-again before v (subst (λ (vs : List ℕ).
    Contains vs v) (sym is) (Contains-numbers count v below)) ∙ is

-- the next number raises it
pub number-next : (count v : ℕ) (before : List ℕ) → v ≡ count → distinct before ≡ numbers count
    → distinct (before ++ v ∷ []) ≡ numbers (v + 1)
number-next count v before same is =
    let none : Contains (distinct before) v → ⊥ = λ there. let below : v < count =
    numbers-below count v (subst (λ (vs : List ℕ). Contains vs v) is there) in omega arith in
    let more : suc v ≡ v + 1 = omega arith in
    distinct-new before v none ∙ ap (λ (vs : List ℕ).
    vs ++ v ∷ []) (is ∙ ap numbers (sym same)) ∙ ap numbers more

-- each number stands at its place
place_in-numbers : (n v : ℕ) → v < n → place_in (numbers n) v ≡ v
place_in-numbers n v below =
    place_in-at (numbers n) v v (omega (arith, length-numbers n)) (numbers-at n v 0 below)
    (λ k early is. let same : k ≡ v = sym (numbers-at n k 0 (omega arith)) ∙ is in omega arith)

module _ (vs : List ℕ) where
  -- the number stands at its own place
  abbrev InPlace : ℕ → Type 0
  InPlace v = place_in vs v ≡ v

  term_kept : (x : Term) (terms : List Term) → All InPlace (variables_of (x ∷ terms))
      → applied (places vs) x ≡ x
  term_kept (Var v) terms all = ap Var (All-head InPlace v (variables_of terms) all)
  term_kept (Ind i) terms all = refl

  rest_kept : (x : Term) (terms : List Term) → All InPlace (variables_of (x ∷ terms))
      → All InPlace (variables_of terms)
  rest_kept (Var v) terms all = All-tail InPlace v (variables_of terms) all
  rest_kept (Ind i) terms all = all

  terms_kept : (terms : List Term) → All InPlace (variables_of terms)
      → map (applied (places vs)) terms ≡ terms
  terms_kept [] all = refl
  terms_kept (x ∷ terms) all =
      ap₂ (λ (y : Term) (ys : List Term). y ∷ ys) (term_kept x terms all)
      (terms_kept terms (rest_kept x terms all))

  atoms_kept : (atoms : List Atom) → All InPlace (variables_of (terms_of atoms))
      → map (applied_atom (places vs)) atoms ≡ atoms
  atoms_kept [] all = refl
  atoms_kept (atom.Concept c x ∷ atoms) all =
      ap₂ (λ (y : Term) (ys : List Atom). atom.Concept c y ∷ ys) (term_kept x (terms_of atoms) all)
      (atoms_kept atoms (rest_kept x (terms_of atoms) all))
  atoms_kept (atom.Role p x y ∷ atoms) all =
      let later : All InPlace (variables_of (y ∷ terms_of atoms)) =
      rest_kept x (y ∷ terms_of atoms) all in
      ap₂ (λ (a : Atom) (ys : List Atom). a ∷ ys)
      (ap₂ (atom.Role p) (term_kept x (y ∷ terms_of atoms) all)
      (term_kept y (terms_of atoms) later))
      (atoms_kept atoms (rest_kept y (terms_of atoms) later))

-- a query whose variables are numbered in order, with no atom twice, is its own normal form
pub normalise-numbered : (q : Cq) (n : ℕ) → variables q ≡ numbers n
    → first_places same_atom q.body ≡ q.body → normalise q ≡ q
normalise-numbered q n counted once =
    let vs : List ℕ = variables q in
    let P : ℕ → Type 0 = λ v. place_in vs v ≡ v in
    let all : All P (variables_of (q.head ++ terms_of q.body)) =
    All-from_first_places (λ v w. v == w) P (λ v w.
    eqb-true v w) (variables_of (q.head ++ terms_of q.body))
    (All-weaker (Contains vs) P
    (λ v there. ap (λ (ws : List ℕ). place_in ws v) counted ∙ place_in-numbers n v
    (numbers-below n v (subst (λ (ws : List ℕ). Contains ws v) counted there)))
    vs (All-contains_itself vs)) in
    let parts : All P (variables_of q.head ++ variables_of (terms_of q.body)) =
    subst (All P) (variables_of-append q.head (terms_of q.body)) all in
    let head : map (applied (numbering q)) q.head ≡ q.head =
    terms_kept vs q.head (All-front P (variables_of q.head) (variables_of (terms_of q.body))
    parts) in
    let body : map (applied_atom (numbering q)) q.body ≡ q.body =
    atoms_kept vs q.body (All-back P (variables_of q.head) (variables_of (terms_of q.body))
    parts) in
    ap₂ (λ (h : List Term) (b : List Atom). record {
      head = h;
      body =
          first_places same_atom b;
    }) head body
    ∙ ap (λ (b : List Atom). record { head = q.head; body = b }) once

pub normalise-counted : (q : Cq) (count : Option ℕ) → IfSome count (λ n. variables q ≡ numbers n)
    → is_some count ≡ true → first_places same_atom q.body ≡ q.body → normalise q ≡ q
normalise-counted q None counted some once = absurd (cc)
normalise-counted q (Some n) counted some once = normalise-numbered q n counted once
