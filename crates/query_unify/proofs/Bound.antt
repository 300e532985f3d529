-- What the steps do to a query within the limits.
use Rattle.std.proofs.Common.{◌≡◌, ◌==◌, ℕ, suc, ◌+◌, ◌≤◌, Bool, true, false, cond, List, [], ◌∷◌}
use Rattle.std.proofs.Common.{◌++◌, length, map, refl, sym, ◌∙◌, ap, subst, arith, inl, inr, eq-eqb}
use Rattle.std.specs.Prelude.{◌⊎◌, ◌≢◌, Some, slice_get, nat_eq}
use Rattle.std.specs.Bool.{Decides}
use Rattle.std.specs.List.{All, AllPairs, Any, Contains, IsDistinct, filter}
use Rattle.std.proofs.lemmas.Cmp.{nat_eq_equiv}
use Rattle.std.proofs.lemmas.List.Kept.{AllPairs-cons, AllPairs-filter}
use Rattle.std.proofs.lemmas.Map.Made.{IsDistinct-from_AllPairs, length-le_from_is_member}
use Rattle.std.proofs.lemmas.Map.Views.{list_any-from_Contains, Contains-from_any}
use Rattle.dl_syntax.specs.declared.names.RoleId.{RoleId}
use Rattle.std.proofs.Math.ListN.{set, length-set}
use Rattle.std.proofs.lemmas.Bool.{eqb-true}
use Rattle.std.proofs.lemmas.List.{length-map}
use Rattle.std.proofs.lemmas.List.Elements.{All-nil, All-cons, All-head, All-tail, All-append}
use Rattle.std.proofs.lemmas.List.Elements.{All-weaker, All-contains, All-contains_itself}
use Rattle.std.proofs.lemmas.List.Elements.{Contains-append_left, Contains-append_right}
use Rattle.std.proofs.lemmas.List.Elements.{Contains-append_cases}
use Rattle.list_lemmas.proofs.Elements.{Contains-later, Contains-cons_cases}
use Rattle.list_lemmas.proofs.Maps.{Contains-map}
use Rattle.dl_syntax.specs.declared.ontology.Basic.{Basic}
use Rattle.dl_syntax.specs.declared.ontology.Basic.TheVariants as basic
use Rattle.dl_syntax.specs.declared.ontology.Inclusion.{Inclusion}
use Rattle.dl_syntax.specs.declared.ontology.Inclusion.TheVariants as inclusion
use Rattle.dl_syntax.specs.declared.queries.Term.{Term}
use Rattle.dl_syntax.specs.declared.queries.Term.TheVariants.{Var, Ind}
use Rattle.dl_syntax.specs.declared.queries.Atom.{Atom}
use Rattle.dl_syntax.specs.declared.queries.Atom.TheVariants as atom
use Rattle.dl_syntax.specs.declared.queries.Cq.{Cq}
use Rattle.dl_syntax.specs.Queries.{HasTerm, IsBound, IsQuery}
use Rattle.query_unify.specs.Substitution.{Substitution, applied, applied_atom, applied_query}
use Rattle.query_unify.specs.Normal.{first_places, distinct, variables_of, terms_of, variables}
use Rattle.query_unify.specs.Normal.{numbering, normalise, same_atom}
use Rattle.query_unify.specs.Table.{count_in_term, count_in_terms, basic_atom, Becomes}
use Rattle.query_unify.specs.Reach.{Step, replace, reduce}
use Rattle.query_unify.proofs.Places.{SplitsAt, splits_at}
use Rattle.query_unify.proofs.NormalForm.{All-first_places, same_atom-is}
use Rattle.query_unify.proofs.Repeats.{Contains-first_places, same_atom-itself, first_places-short}
use Rattle.query_unify.proofs.Counts.{count-itself}
use Rattle.query_unify.proofs.Renaming.{variables_of-append}
use Rattle.query_unify.proofs.Sizes.{variables_of-short, terms_of-short}

-- an atom of the list has the term
abbrev Stands : List Atom → Term → Type 0
Stands atoms x = (a : Atom) × Contains atoms a × HasTerm a x

stands-from_any : (atoms : List Atom) (x : Term) → Any (λ a. HasTerm a x) atoms → Stands atoms x
stands-from_any atoms x (k, a, below, is, has) = (a, (k, below, is), has)

any-from_stands : (atoms : List Atom) (x : Term) → Stands atoms x → Any (λ a. HasTerm a x) atoms
any-from_stands atoms x (a, (k, below, is), has) = (k, a, below, is, has)

-- a bound variable stays bound where the atoms that have it are kept or replaced by atoms that have
-- its image
bound_image : (s : Substitution) (body other : List Atom) (x : Term)
    → ((v : ℕ) → x ≡ Var v → Stands body (Var v) → (w : ℕ) → s v ≡ Var w → Stands other (Var w))
    → IsBound body x → IsBound other (applied s x)
bound_image s body other (Var v) moved bound = by (s v) refl
  where
    by : (y : Term) → s v ≡ y → IsBound other y
    by (Var w) is = any-from_stands other (Var w)
        (moved v refl (stands-from_any body (Var v) bound) w is)
    by (Ind i) is = tt
bound_image s body other (Ind i) moved bound = tt

HasTerm-applied : (s : Substitution) (a : Atom) (x : Term) → HasTerm a x
    → HasTerm (applied_atom s a) (applied s x)
HasTerm-applied s (atom.Concept c y) x has = ap (applied s) has
HasTerm-applied s (atom.Role p y z) x (inl first) = inl (ap (applied s) first)
HasTerm-applied s (atom.Role p y z) x (inr second) = inr (ap (applied s) second)

stands-applied : (s : Substitution) (body : List Atom) (x : Term) → Stands body x
    → Stands (map (applied_atom s) body) (applied s x)
stands-applied s body x (a, there, has) =
    (applied_atom s a, Contains-map (applied_atom s) body a there, HasTerm-applied s a x has)

heads_bound : (s : Substitution) (body other : List Atom) (head : List Term)
    → ((v w : ℕ) → Contains head (Var v) → Stands body (Var v) → s v ≡ Var w → Stands other (Var w))
    → All (IsBound body) head → All (IsBound other) (map (applied s) head)
heads_bound s body other [] moved all = All-nil (IsBound other)
heads_bound s body other (x ∷ head) moved all =
    All-cons (IsBound other) (applied s x) (map (applied s) head)
    (bound_image s body other x (λ v is stands w to.
    moved v w (subst (λ (y : Term). Contains (x ∷ head) y) is (0, omega arith, refl)) stands to)
    (All-head (IsBound body) x head all))
    (heads_bound s body other head (λ v w there stands to.
    moved v w (suc there.0, omega (arith, there.1), there.2) stands to)
    (All-tail (IsBound body) x head all))

-- a query stays one under a substitution
pub IsQuery-applied : (s : Substitution) (q : Cq) → IsQuery q → IsQuery (applied_query s q)
IsQuery-applied s q is = record {
  some_atom = omega (arith, is.some_atom, length-map q.body (applied_atom s));
  few_atoms = omega (arith, is.few_atoms, length-map q.body (applied_atom s));
  head_bound = heads_bound s q.body (map (applied_atom s) q.body) q.head
      (λ v w there stands to. subst (Stands (map (applied_atom s) q.body)) to
      (stands-applied s q.body (Var v) stands)) is.head_bound;
}

stands-first : (body : List Atom) (x : Term) → Stands body x
    → Stands (first_places same_atom body) x
stands-first body x (a, there, has) =
    (a, Contains-first_places same_atom same_atom-is same_atom-itself body a there, has)

some_first : (body : List Atom) → 1 ≤ length body → 1 ≤ length (first_places same_atom body)
some_first [] some = some
some_first (a ∷ body) some = omega arith

bound-first : (body : List Atom) (x : Term) → IsBound body x
    → IsBound (first_places same_atom body) x
bound-first body (Var v) bound =
    any-from_stands (first_places same_atom body) (Var v)
    (stands-first body (Var v) (stands-from_any body (Var v) bound))
bound-first body (Ind i) bound = tt

-- and so does its normal form
pub IsQuery-normalise : (q : Cq) → IsQuery q → IsQuery (normalise q)
IsQuery-normalise q is =
    let numbered : Cq = applied_query (numbering q) q in
    let fits : IsQuery numbered = IsQuery-applied (numbering q) q is in
    record {
      some_atom = some_first numbered.body fits.some_atom;
      few_atoms = omega (arith, fits.few_atoms, first_places-short same_atom numbered.body);
      head_bound = All-weaker (IsBound numbered.body)
          (IsBound (first_places same_atom numbered.body)) (λ x bound.
          bound-first numbered.body x bound) numbered.head fits.head_bound;
    }

-- the term occurs as often as it is counted
pub occurs : (v : ℕ) (terms : List Term) → Contains terms (Var v) → 1 ≤ count_in_terms v terms
occurs v [] (k, below, is) = absurd (omega arith)
occurs v (x ∷ terms) there = at (Contains-cons_cases x terms (Var v) there) (λ later.
    occurs v terms later)
  where
    at : (x ≡ Var v) ⊎ Contains terms (Var v)
        → (Contains terms (Var v) → 1 ≤ count_in_terms v terms)
        → 1 ≤ count_in_term v x + count_in_terms v terms
    at (inl same) further = let one : count_in_term v x ≡ 1 =
        ap (count_in_term v) same ∙ count-itself v in omega arith
    at (inr later) further = omega (arith, further later)

directed_has : (b : Bool) (p : RoleId) (x y z : Term) → (x ≡ z) ⊎ (y ≡ z)
    → HasTerm (cond b (atom.Role p y x) (atom.Role p x y)) z
directed_has true p x y z (inl first) = inr first
directed_has true p x y z (inr second) = inl second
directed_has false p x y z either = either

has_directed : (b : Bool) (p : RoleId) (x y z : Term)
    → HasTerm (cond b (atom.Role p y x) (atom.Role p x y)) z → (x ≡ z) ⊎ (y ≡ z)
has_directed true p x y z (inl second) = inr second
has_directed true p x y z (inr first) = inl first
has_directed false p x y z has = has

basic_has : (b : Basic) (x : Term) (new : ℕ) (z : Term) → x ≡ z → HasTerm (basic_atom b x new) z
basic_has (basic.Concept c) x new z same = same
basic_has (basic.Some r) x new z same = directed_has r.inverse r.id x (Var new) z (inl same)

-- a variable of the head that stands in the old atom stands in the new one
replaced_has : (i : Inclusion) (q : Cq) (v new : ℕ) (old a : Atom) → Becomes i q new old a
    → Contains q.head (Var v) → HasTerm old (Var v) → HasTerm a (Var v)
replaced_has (inclusion.Concepts b (basic.Concept c)) q v new old a (x, asks, is) there has =
    subst (λ (z : Atom). HasTerm z (Var v)) (sym is)
    (basic_has b x new (Var v) (subst (λ (z : Atom). HasTerm z (Var v)) asks has))
replaced_has (inclusion.Concepts b (basic.Some r)) q v new old a (x, (u, unbound, asks), is) there
    has =
    subst (λ (z : Atom). HasTerm z (Var v)) (sym is)
    (basic_has b x new (Var v)
    (by (has_directed r.inverse r.id x (Var u) (Var v)
    (subst (λ (z : Atom). HasTerm z (Var v)) asks has))))
  where
    by : (x ≡ Var v) ⊎ (Var u ≡ Var v) → x ≡ Var v
    by (inl same) = same
    by (inr same) =
        let other : u ≡ v = cc in
        let some : 1 ≤ count_in_terms v q.head = occurs v q.head there in
        let none : count_in_terms v q.head ≡ 0 =
        subst (λ (w : ℕ). count_in_terms w q.head ≡ 0) other unbound.head in
        absurd (omega arith)
replaced_has (inclusion.Roles r s) q v new old a (x, y, was, is) there has =
    subst (λ (z : Atom). HasTerm z (Var v)) (sym is)
    (directed_has r.inverse r.id x y (Var v)
    (has_directed s.inverse s.id x y (Var v) (subst (λ (z : Atom). HasTerm z (Var v)) was has)))
replaced_has (inclusion.Qualified b r c) q v new old a becomes there has = absurd becomes

stands_replaced : (front : List Atom) (old a : Atom) (rest : List Atom) (x : Term)
    → (HasTerm old x → HasTerm a x) → Stands (front ++ old ∷ rest) x → Stands (front ++ a ∷ rest) x
stands_replaced front old a rest x kept (b, there, has) =
    by (Contains-append_cases front (old ∷ rest) b there)
  where
    later : (old ≡ b) ⊎ Contains rest b → Stands (front ++ a ∷ rest) x
    later (inl same) = (
      a,
      Contains-append_right front (a ∷ rest) a (0, omega arith, refl),
      kept
          (subst (λ (z : Atom). HasTerm z x) (sym same) has),
    )
    later (inr last) = (
      b,
      Contains-append_right front (a ∷ rest) b (suc last.0, omega (arith, last.1), last.2),
      has,
    )

    by : Contains front b ⊎ Contains (old ∷ rest) b → Stands (front ++ a ∷ rest) x
    by (inl first) = (b, Contains-append_left front (a ∷ rest) b first, has)
    by (inr last) = later (Contains-cons_cases old rest b last)

-- a query stays one where an atom is replaced
pub IsQuery-replaced : (i : Inclusion) (q : Cq) (place new : ℕ) (old a : Atom)
    → slice_get q.body place ≡ Some old → Becomes i q new old a → IsQuery q
    → IsQuery (record { head = q.head; body = set q.body place a })
IsQuery-replaced i q place new old a at becomes is = record {
  some_atom = omega (arith, is.some_atom, length-set q.body place a);
  few_atoms = omega (arith, is.few_atoms, length-set q.body place a);
  head_bound = All-weaker (Contains q.head) (IsBound (set q.body place a)) (λ x there.
      kept x there (All-contains (IsBound q.body) q.head x is.head_bound there)) q.head
      (All-contains_itself q.head);
}
  where
    split : SplitsAt q.body place old
    split = splits_at q.body place old at

    kept : (x : Term) → Contains q.head x → IsBound q.body x → IsBound (set q.body place a) x
    kept (Var v) there bound = any-from_stands (set q.body place a) (Var v)
        (subst (λ (atoms : List Atom). Stands atoms (Var v)) (sym (split.changed a))
        (stands_replaced split.front old a split.rest (Var v) (λ has.
        replaced_has i q v new old a becomes there has)
        (subst (λ (atoms : List Atom). Stands atoms (Var v)) split.whole
        (stands-from_any q.body (Var v) bound))))
    kept (Ind i) there bound = tt

-- a step leads from a query to a query
pub IsQuery-step : (inclusions : List Inclusion) (q q' : Cq) → Step inclusions q q' → IsQuery q
    → IsQuery q'
IsQuery-step inclusions q q' (replace i place listed r) is =
    subst IsQuery (sym r.result) (IsQuery-normalise (record {
      head = q.head;
      body =
          set q.body place r.new;
    }) (IsQuery-replaced i q place r.variable r.old r.new r.at r.becomes
    is))
IsQuery-step inclusions q q' (reduce j k order r) is =
    subst IsQuery (sym r.result) (IsQuery-normalise (applied_query r.unifier q)
    (IsQuery-applied r.unifier q is))

-- each variable once
distinct_apart : (vs : List ℕ) → AllPairs (λ v w. v ≢ w) (distinct vs)
distinct_apart [] = λ i j d before within. absurd (omega arith)
distinct_apart (v ∷ vs) =
    let test : ℕ → Bool = λ w. cond (v == w) false true in
    AllPairs-cons (λ w u. w ≢ u) v (filter test (distinct vs)) (others (distinct vs))
    (AllPairs-filter (λ w u. w ≢ u) test (distinct vs) (distinct_apart vs))
  where
    kept_one : (w : ℕ) (b : Bool) → (v == w) ≡ b → (ws : List ℕ) → All (λ u. v ≢ u) ws
        → All (λ u. v ≢ u) (cond (cond b false true) (w ∷ ws) ws)
    kept_one w true is ws all = all
    kept_one w false is ws all = All-cons (λ u. v ≢ u) w ws (λ same. let yes : (v == w) ≡ true =
        eq-eqb v w same in cc) all

    others : (ws : List ℕ) → All (λ u. v ≢ u) (filter (λ w. cond (v == w) false true) ws)
    others [] = All-nil (λ u. v ≢ u)
    others (w ∷ ws) = kept_one w (v == w) refl (filter (λ u. cond (v == u) false true) ws)
        (others ws)

Contains-variables : (terms : List Term) (v : ℕ) → Contains terms (Var v)
    → Contains (variables_of terms) v
Contains-variables [] v (k, below, is) = absurd (omega arith)
Contains-variables (Var w ∷ terms) v there =
    at (Contains-cons_cases (Var w) terms (Var v) there) (λ later. Contains-variables terms v later)
  where
    at : (Var w ≡ Var v) ⊎ Contains terms (Var v)
        → (Contains terms (Var v) → Contains (variables_of terms) v)
        → Contains (w ∷ variables_of terms) v
    at (inl same) further = (0, omega arith, cc)
    at (inr later) further = Contains-later w (variables_of terms) v (further later)
Contains-variables (Ind i ∷ terms) v there =
    at (Contains-cons_cases (Ind i) terms (Var v) there) (λ later. Contains-variables terms v later)
  where
    at : (Ind i ≡ Var v) ⊎ Contains terms (Var v)
        → (Contains terms (Var v) → Contains (variables_of terms) v)
        → Contains (variables_of terms) v
    at (inl same) further = absurd (cc)
    at (inr later) further = further later

terms_first : (a : Atom) (atoms : List Atom) (x : Term) → HasTerm a x
    → Contains (terms_of (a ∷ atoms)) x
terms_first (atom.Concept c y) atoms x has = (0, omega arith, has)
terms_first (atom.Role p y z) atoms x (inl first) = (0, omega arith, first)
terms_first (atom.Role p y z) atoms x (inr second) = (1, omega arith, second)

terms_later : (a : Atom) (atoms : List Atom) (x : Term) → Contains (terms_of atoms) x
    → Contains (terms_of (a ∷ atoms)) x
terms_later (atom.Concept c y) atoms x there = Contains-later y (terms_of atoms) x there
terms_later (atom.Role p y z) atoms x there =
    Contains-later y (z ∷ terms_of atoms) x (Contains-later z (terms_of atoms) x there)

stands_in_terms : (atoms : List Atom) (a : Atom) (x : Term) → Contains atoms a → HasTerm a x
    → Contains (terms_of atoms) x
stands_in_terms [] a x (k, below, is) has = absurd (omega arith)
stands_in_terms (b ∷ atoms) a x there has =
    at (Contains-cons_cases b atoms a there) (λ later. stands_in_terms atoms a x later has)
  where
    at : (b ≡ a) ⊎ Contains atoms a → (Contains atoms a → Contains (terms_of atoms) x)
        → Contains (terms_of (b ∷ atoms)) x
    at (inl same) further = terms_first b atoms x (subst (λ (z : Atom). HasTerm z x) (sym same) has)
    at (inr later) further = terms_later b atoms x (further later)

-- a variable of the head stands in the terms of the body
pub in_body : (body : List Atom) (v : ℕ) → IsBound body (Var v) → Contains (terms_of body) (Var v)
in_body body v (k, a, below, is, has) = stands_in_terms body a (Var v) (k, below, is) has

bound_in_body : (body : List Atom) (v : ℕ) → IsBound body (Var v)
    → Contains (variables_of (terms_of body)) v
bound_in_body body v bound = Contains-variables (terms_of body) v (in_body body v bound)

head_in_body : (body : List Atom) (head : List Term) → All (IsBound body) head
    → All (Contains (variables_of (terms_of body))) (variables_of head)
head_in_body body [] all = All-nil (Contains (variables_of (terms_of body)))
head_in_body body (Var v ∷ head) all =
    All-cons (Contains (variables_of (terms_of body))) v (variables_of head)
    (bound_in_body body v (All-head (IsBound body) (Var v) head all))
    (head_in_body body head (All-tail (IsBound body) (Var v) head all))
head_in_body body (Ind i ∷ head) all =
    head_in_body body head (All-tail (IsBound body) (Ind i) head all)

nat_decides : (v w : ℕ) → Decides (v == w) (v ≡ w)
nat_decides v w = (eqb-true v w, eq-eqb v w)

-- a query has no more variables than places in its body
pub variables-few : (q : Cq) → IsQuery q → length (variables q) ≤ 16
variables-few q is =
    let ws : List ℕ = variables_of (terms_of q.body) in
    let all : All (Contains ws) (variables_of (q.head ++ terms_of q.body)) =
    subst (All (Contains ws)) (sym (variables_of-append q.head (terms_of q.body)))
    (All-append (Contains ws) (variables_of q.head) ws
    (head_in_body q.body q.head is.head_bound) (All-contains_itself ws)) in
    let inside : All (Contains ws) (variables q) =
    All-first_places (λ v w. v == w) (Contains ws) (variables_of (q.head ++ terms_of q.body))
    all in
    let apart : IsDistinct nat_eq (variables q) =
    IsDistinct-from_AllPairs nat_decides (variables q)
    (distinct_apart (variables_of (q.head ++ terms_of q.body))) in
    let short : length (variables q) ≤ length ws =
    length-le_from_is_member nat_eq_equiv (variables q) ws apart
    (λ v h. list_any-from_Contains nat_eq_equiv v ws
    (All-contains (Contains ws) (variables q) v inside
    (Contains-from_any (λ x y. eqb-true x y) v (variables q) h))) in
    omega (arith, short, variables_of-short (terms_of q.body), terms_of-short q.body, is.few_atoms)
