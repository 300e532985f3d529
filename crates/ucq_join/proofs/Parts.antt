-- Parts that share no variable have a match together where each has one.
use Rattle.std.specs.Prelude.{◌≡◌, ℕ, List, [], ◌∷◌, ◌++◌, Bool, true, false, ◌==◌, cond, refl, ◌⊎◌}
use Rattle.std.specs.Prelude.{◌↔◌, ◌<◌, IsTrue, map, length}
use Rattle.std.specs.List.{Contains, remove}
use Rattle.std.specs.Bool.{OnTrue, OnFalse}
use Rattle.std.specs.List.Sorted.{IsPermutation}
use Rattle.std.proofs.Common.{sym, ◌∙◌, ap, subst, inl, inr, eq-eqb, get_or}
use Rattle.std.proofs.lemmas.Bool.{eqb-true}
use Rattle.std.proofs.lemmas.List.Elements.{All-contains, All-from_recursion, recursion_from_All}
use Rattle.std.proofs.lemmas.List.Elements.{Contains-push_cases, Contains-append_left}
use Rattle.std.proofs.lemmas.List.Elements.{Contains-push}
use Rattle.std.proofs.lemmas.List.Sorted.{Contains-permutation, IsPermutation-sym}
use Rattle.std.proofs.lemmas.List.Sorted.{IsPermutation-more, IsPermutation-refl}
use Rattle.list_lemmas.proofs.Elements.{Contains-none, Contains-first, Contains-later}
use Rattle.list_lemmas.proofs.Elements.{Contains-cons_cases, All-from_contains}
use Rattle.dl_syntax.specs.declared.facts.Element.{Element}
use Rattle.dl_syntax.specs.declared.facts.Fact.{Fact}
use Rattle.dl_syntax.specs.declared.facts.Fact.TheVariants as fact
use Rattle.dl_syntax.specs.declared.queries.Term.{Term}
use Rattle.dl_syntax.specs.declared.queries.Term.TheVariants as term
use Rattle.dl_syntax.specs.declared.queries.Atom.{Atom}
use Rattle.dl_syntax.specs.declared.queries.Atom.TheVariants as atom
use Rattle.dl_syntax.specs.declared.queries.Cq.{Cq}
use Rattle.dl_syntax.specs.Queries.{HasTerm, IsQuery}
use Rattle.dl_syntax.specs.Match.{Assignment, Match, term_at, atom_at}
use Rattle.ucq_join.specs.Bindings.{Extends, IsAssigned}
use Rattle.ucq_join.specs.Gathered.{Gathered, AddsRows}
use Rattle.ucq_join.specs.Partial.{IsCovered, HeadIsCovered, IsAnswerFrom, HasMatch}
use Rattle.ucq_join.specs.Split.{IsMet, Touches, AddsTerms, IsSplit}
use Rattle.ucq_join.proofs.Adding.{adds_by, adds_none, bound_covered}
use Rattle.ucq_join.proofs.Witnesses.{covered_member, covered_cases, query_covered}

-- whether the variable stands in the atom, and in one of the atoms
is_variable : ℕ → Term → Bool
is_variable v (term.Var w) = v == w
is_variable v (term.Ind a) = false

is_either : Bool → Bool → Bool
is_either b c = cond b true c

stands_in : ℕ → Atom → Bool
stands_in v (atom.Concept c x) = is_variable v x
stands_in v (atom.Role p x y) = is_either (is_variable v x) (is_variable v y)

stands_among : ℕ → List Atom → Bool
stands_among v [] = false
stands_among v (a ∷ atoms) = is_either (stands_in v a) (stands_among v atoms)

either_true : (b c : Bool) → is_either b c ≡ true → (b ≡ true) ⊎ (c ≡ true)
unfolding is_either
either_true true c h = inl refl
either_true false c h = inr h

true_first : (b c : Bool) → b ≡ true → is_either b c ≡ true
unfolding is_either
true_first true c h = refl
true_first false c h = cc

true_second : (b c : Bool) → c ≡ true → is_either b c ≡ true
unfolding is_either
true_second true c h = refl
true_second false c h = h

variable_is : (v : ℕ) (x : Term) → is_variable v x ≡ true → x ≡ term.Var v
unfolding is_variable
variable_is v (term.Var w) h = let same : v ≡ w = eqb-true v w h in ap term.Var (sym same)
variable_is v (term.Ind a) h = cc

is_own : (v : ℕ) (x : Term) → x ≡ term.Var v → is_variable v x ≡ true
unfolding is_variable
is_own v (term.Var w) h = let same : v ≡ w = cc in eq-eqb v w same
is_own v (term.Ind a) h = cc

in_atom : (v : ℕ) (a : Atom) → HasTerm a (term.Var v) → stands_in v a ≡ true
unfolding stands_in
in_atom v (atom.Concept c x) h = is_own v x h
in_atom v (atom.Role p x y) (inl h) = true_first (is_variable v x) (is_variable v y) (is_own v x h)
in_atom v (atom.Role p x y) (inr h) = true_second (is_variable v x) (is_variable v y) (is_own v y h)

atom_has : (v : ℕ) (a : Atom) → stands_in v a ≡ true → HasTerm a (term.Var v)
unfolding stands_in
atom_has v (atom.Concept c x) h = variable_is v x h
atom_has v (atom.Role p x y) h = elim (either_true (is_variable v x) (is_variable v y) h) [
  | inl k ↦ inl (variable_is v x k)
  | inr k ↦ inr (variable_is v y k)
]

among_true : (v : ℕ) (atoms : List Atom) (a : Atom) → Contains atoms a → HasTerm a (term.Var v)
    → stands_among v atoms ≡ true
unfolding stands_among
among_true v [] a there h = absurd (Contains-none a there)
among_true v (b ∷ atoms) a there h = elim (Contains-cons_cases b atoms a there) [
  | inl same ↦ true_first (stands_in v b) (stands_among v atoms)
      (ap (stands_in v) same ∙ in_atom v a h)
  | inr later ↦ true_second (stands_in v b) (stands_among v atoms) (among_true v atoms a later h)
]

among_has : (v : ℕ) (atoms : List Atom) → stands_among v atoms ≡ true
    → (a : Atom) × Contains atoms a × HasTerm a (term.Var v)
unfolding stands_among
among_has v [] h = absurd (cc)
among_has v (b ∷ atoms) h = elim (either_true (stands_in v b) (stands_among v atoms) h) [
  | inl k ↦ (b, Contains-first b atoms, atom_has v b k)
  | inr k ↦ (let m = among_has v atoms k in (m.0, Contains-later b atoms m.0 m.1, m.2))
]

-- assignments that agree on an atom's variables send it to one fact
same_term_at : (s t : Assignment) (x : Term) → ((v : ℕ) → x ≡ term.Var v → s v ≡ t v)
    → term_at s x ≡ term_at t x
same_term_at s t (term.Var v) agree = agree v refl
same_term_at s t (term.Ind a) agree = refl

same_atom_at : (s t : Assignment) (a : Atom) → ((v : ℕ) → HasTerm a (term.Var v) → s v ≡ t v)
    → atom_at s a ≡ atom_at t a
same_atom_at s t (atom.Concept c x) agree = ap (fact.Concept c) (same_term_at s t x agree)
same_atom_at s t (atom.Role p x y) agree =
    ap (λ (e : Element). fact.Role p e (term_at s y)) (same_term_at s t x (λ v h. agree v (inl h)))
    ∙ ap (λ (e : Element). fact.Role p (term_at t x) e)
    (same_term_at s t y (λ v h. agree v (inr h)))

same_match : (s t : Assignment) (atoms : List Atom) (facts : List Fact)
    → ((a : Atom) (v : ℕ) → Contains atoms a → HasTerm a (term.Var v) → s v ≡ t v) → (a : Atom)
    → Contains atoms a → Contains facts (atom_at t a) → Contains facts (atom_at s a)
same_match s t atoms facts agree a there h =
    subst (Contains facts) (sym (same_atom_at s t a (λ v k. agree a v there k))) h

-- the one assignment on the variables of the atoms, and the other elsewhere
both_at : List Atom → Assignment → Assignment → Assignment
both_at atoms inside outside v = cond (stands_among v atoms) (inside v) (outside v)

both_inside : (atoms : List Atom) (inside outside : Assignment) (v : ℕ) (a : Atom)
    → Contains atoms a → HasTerm a (term.Var v) → both_at atoms inside outside v ≡ inside v
unfolding both_at
both_inside atoms inside outside v a there h =
    ap (λ (b : Bool). cond b (inside v) (outside v)) (among_true v atoms a there h)

both_outside : (atoms : List Atom) (inside outside : Assignment) (v : ℕ)
    → ((a : Atom) → Contains atoms a → HasTerm a (term.Var v) → ⊥)
    → both_at atoms inside outside v ≡ outside v
unfolding both_at
both_outside atoms inside outside v none = by (stands_among v atoms) refl where
  by : (b : Bool) → stands_among v atoms ≡ b → cond b (inside v) (outside v) ≡ outside v
  by true h = let m = among_has v atoms h in absurd (none m.0 m.1 m.2)
  by false h = refl

pub extends_any : (t : Assignment) → Extends [] t
extends_any t = record { at = λ v e h. cc }

module _ (facts : List Fact) (terms : List Term) (atoms taken rest : List Atom)
    (split : IsSplit terms atoms taken rest) where
  -- a match of both parts is one of all
  whole : Assignment → Assignment → Assignment
  whole s t = both_at rest t s

  whole_match : (s t : Assignment) → Match taken facts s → Match rest facts t
      → Match atoms facts (both_at rest t s)
  whole_match s t first second =
      All-from_contains (λ a. Contains facts (atom_at (both_at rest t s) a)) atoms (λ a there.
      by a ((split.members a).0 there)) where
        by : (a : Atom) → Contains taken a ⊎ Contains rest a
            → Contains facts (atom_at (both_at rest t s) a)
        by a (inl there) =
            same_match (both_at rest t s) s taken facts (λ b v in_taken h.
            both_outside rest t s v (λ c in_rest k. split.apart c b v in_rest k in_taken h)) a there
            (All-contains (λ b. Contains facts (atom_at s b)) taken a first there)
        by a (inr there) = same_match (both_at rest t s) t rest facts (λ b v in_rest h.
            both_inside rest t s v b in_rest h) a there
            (All-contains (λ b. Contains facts (atom_at t b)) rest a second there)

  taken_match : (t : Assignment) → Match atoms facts t → Match taken facts t
  taken_match t m = All-from_contains (λ a. Contains facts (atom_at t a)) taken (λ a there.
      All-contains (λ b. Contains facts (atom_at t b)) atoms a m ((split.members a).1 (inl there)))

  rest_match : (t : Assignment) → Match atoms facts t → Match rest facts t
  rest_match t m = All-from_contains (λ a. Contains facts (atom_at t a)) rest (λ a there.
      All-contains (λ b. Contains facts (atom_at t b)) atoms a m ((split.members a).1 (inr there)))

  pub both_matched : HasMatch facts taken [] → HasMatch facts rest [] → HasMatch facts atoms []
  both_matched (s, free, first) (t, free', second) =
      (both_at rest t s, extends_any (both_at rest t s), whole_match s t first second)

  pub taken_matched : HasMatch facts atoms [] → HasMatch facts taken []
  taken_matched (t, free, m) = (t, free, taken_match t m)

  pub rest_matched : HasMatch facts atoms [] → HasMatch facts rest []
  rest_matched (t, free, m) = (t, free, rest_match t m)

  head_same : (s t : Assignment) (head : List Term)
      → ((x : Term) → Contains head x → Contains terms x)
      → map (term_at (both_at rest t s)) head ≡ map (term_at s) head
  head_same s t [] known = refl
  head_same s t (x ∷ head) known =
      let first : term_at (both_at rest t s) x ≡ term_at s x =
      same_term_at (both_at rest t s) s x (λ v same.
      both_outside rest t s v (λ a there h.
      split.apart_from_terms a v there h
      (subst (Contains terms) same (known x (Contains-first x head))))) in
      ap (λ (e : Element). e ∷ map (term_at (both_at rest t s)) head) first
      ∙ ap (λ (es : List Element). term_at s x ∷ es)
      (head_same s t head (λ y there. known y (Contains-later x head y there)))

  -- what the whole body answers, where the rest has a match
  pub adds_whole : (head : List Term) → ((x : Term) → Contains head x → Contains terms x)
      → HasMatch facts rest [] → (old new : Gathered)
      → AddsRows old new (IsAnswerFrom facts head taken [])
      → AddsRows old new (IsAnswerFrom facts head atoms [])
  adds_whole head known (t, free', second) old new added =
      adds_by old new (IsAnswerFrom facts head taken []) (IsAnswerFrom facts head atoms []) added
      (λ row (s, free, first, becomes). (
        both_at rest t s,
        extends_any (both_at rest t s),
        whole_match s t first second,
        head_same
            s t head known ∙ becomes,
      ))
      (λ row (s, free, m, becomes). (s, free, taken_match s m, becomes))

  pub adds_unmatched_rest : (head : List Term) → (HasMatch facts rest [] → ⊥) → (rows : Gathered)
      → AddsRows rows rows (IsAnswerFrom facts head atoms [])
  adds_unmatched_rest head none rows =
      adds_none rows (IsAnswerFrom facts head atoms []) (λ row (s, free, m, becomes).
      none (s, free, rest_match s m))

-- an atom and what it was joined with
pub with_atom : (a : Atom) (terms : List Term) (old taken rest part : List Atom)
    → AddsTerms a [] terms → IsSplit terms old taken rest → part ≡ taken ++ a ∷ []
    → IsSplit [] (a ∷ old) part rest
with_atom a terms old taken rest part adds split is = record {
  members = λ b. (λ there. to b (Contains-cons_cases a old b there), λ either. from b either);
  apart_from_terms = λ b v there h none. Contains-none (term.Var v) none;
  apart = λ b d v there h in_part k.
      by b d v there h (Contains-push_cases taken a d
      (subst (λ (xs : List Atom). Contains xs d) is in_part)) k;
}
  where
    put : (b : Atom) → Contains (taken ++ a ∷ []) b → Contains part b
    put b there = subst (λ (xs : List Atom). Contains xs b) (sym is) there

    sides : (b : Atom) → Contains taken b ⊎ Contains rest b → Contains part b ⊎ Contains rest b
    sides b (inl there) = inl (put b (Contains-append_left taken (a ∷ []) b there))
    sides b (inr there) = inr there

    to : (b : Atom) → (a ≡ b) ⊎ Contains old b → Contains part b ⊎ Contains rest b
    to b (inl same) = inl (put b (subst (Contains (taken ++ a ∷ [])) same (Contains-push taken a)))
    to b (inr later) = sides b ((split.members b).0 later)

    back : (b : Atom) → Contains taken b ⊎ (a ≡ b) → Contains (a ∷ old) b
    back b (inl there) = Contains-later a old b ((split.members b).1 (inl there))
    back b (inr same) = subst (Contains (a ∷ old)) same (Contains-first a old)

    from : (b : Atom) → Contains part b ⊎ Contains rest b → Contains (a ∷ old) b
    from b (inl there) =
        back b (Contains-push_cases taken a b (subst (λ (xs : List Atom). Contains xs b) is there))
    from b (inr there) = Contains-later a old b ((split.members b).1 (inr there))

    by : (b d : Atom) (v : ℕ) → Contains rest b → HasTerm b (term.Var v)
        → Contains taken d ⊎ (a ≡ d) → HasTerm d (term.Var v) → ⊥
    by b d v there h (inl in_taken) k = split.apart b d v there h in_taken k
    by b d v there h (inr same) k =
        split.apart_from_terms b v there h
        (adds.added (term.Var v) (subst (λ (z : Atom). HasTerm z (term.Var v)) (sym same) k))

-- bodies with the same atoms have a match alike
pub match_same : (facts : List Fact) (xs ys : List Atom)
    → ((a : Atom) → Contains ys a → Contains xs a) → HasMatch facts xs [] → HasMatch facts ys []
match_same facts xs ys within (t, free, m) = (
  t,
  free,
  All-from_contains (λ a. Contains facts (atom_at t a)) ys (λ a there.
      All-contains (λ b. Contains facts (atom_at t b)) xs a m (within a there)),
)

pub match_ordered : (facts : List Fact) (xs ys : List Atom) → IsPermutation xs ys
    → HasMatch facts xs [] ↔ HasMatch facts ys []
match_ordered facts xs ys p = (
  match_same facts xs ys (λ a there.
      Contains-permutation ys xs a (IsPermutation-sym xs ys p) there),
  match_same facts ys xs
      (λ a there. Contains-permutation xs ys a p there),
)

-- the part with its atom
pub part_found : (facts : List Fact) (a : Atom) (old part body rest : List Atom)
    → IsSplit [] (a ∷ old) part rest → IsPermutation part body → HasMatch facts body []
    → HasMatch facts (a ∷ old) [] ↔ HasMatch facts rest []
part_found facts a old part body rest split p m = (
  rest_matched facts [] (a ∷ old) part rest split,
  λ k. both_matched facts [] (a ∷ old) part rest split ((match_ordered facts part body p).1 m) k,
)

pub part_lacking : (facts : List Fact) (a : Atom) (old part body rest : List Atom)
    → IsSplit [] (a ∷ old) part rest → IsPermutation part body → (HasMatch facts body [] → ⊥)
    → HasMatch facts (a ∷ old) [] → ⊥
part_lacking facts a old part body rest split p none m =
    none ((match_ordered facts part body p).0 (taken_matched facts [] (a ∷ old) part rest split m))

pub popped : (facts : List Fact) (all rest : List Atom) (a : Atom) → all ≡ rest ++ a ∷ []
    → HasMatch facts all [] ↔ HasMatch facts (a ∷ rest) []
popped facts all rest a is = (
  match_same facts all (a ∷ rest) (λ b there.
      subst (λ (xs : List Atom). Contains xs b) (sym is)
      (to b (Contains-cons_cases a rest b there))),
  match_same facts (a ∷ rest) all (λ b there.
      from b (Contains-push_cases rest a b (subst (λ (xs : List Atom). Contains xs b) is there))),
)
  where
    to : (b : Atom) → (a ≡ b) ⊎ Contains rest b → Contains (rest ++ a ∷ []) b
    to b (inl same) = subst (Contains (rest ++ a ∷ [])) same (Contains-push rest a)
    to b (inr later) = Contains-append_left rest (a ∷ []) b later

    from : (b : Atom) → Contains rest b ⊎ (a ≡ b) → Contains (a ∷ rest) b
    from b (inl later) = Contains-later a rest b later
    from b (inr same) = subst (Contains (a ∷ rest)) same (Contains-first a rest)

-- taking atoms out one at a time
pub record Taking (terms known : List Term) (atoms taken rest : List Atom) : Type 0 where
  pub members : (a : Atom) → Contains atoms a ↔ (Contains taken a ⊎ Contains rest a)
  pub begun : (x : Term) → Contains terms x → Contains known x
  pub met : (a : Atom) (x : Term) → Contains taken a → HasTerm a x → Contains known x

pub taking-start : (terms known : List Term) (atoms taken : List Atom) → known ≡ terms → taken ≡ []
    → Taking terms known atoms taken atoms
taking-start terms known atoms taken is empty = record {
  members = λ a. (λ there. inr there, λ either. from a either);
  begun = λ x there. subst (λ (xs : List Term). Contains xs x) (sym is) there;
  met = λ a x there h. absurd (none a there);
}
  where
    none : (a : Atom) → Contains taken a → ⊥
    none a there = Contains-none a (subst (λ (xs : List Atom). Contains xs a) empty there)

    from : (a : Atom) → Contains taken a ⊎ Contains atoms a → Contains atoms a
    from a (inl there) = absurd (none a there)
    from a (inr there) = there

pub taking-more : (terms known more : List Term) (atoms taken rest taken' rest' : List Atom)
    (a : Atom) → Taking terms known atoms taken rest → AddsTerms a known more
    → taken' ≡ taken ++ a ∷ [] → ((b : Atom) → Contains rest b ↔ (Contains rest' b ⊎ (a ≡ b)))
    → Taking terms more atoms taken' rest'
taking-more terms known more atoms taken rest taken' rest' a t adds is left = record {
  members = λ b. (λ there. to b ((t.members b).0 there), λ either. (t.members b).1 (from b either));
  begun = λ x there. adds.kept x (t.begun x there);
  met = λ b x there h. meets b x (Contains-push_cases taken a b
      (subst (λ (xs : List Atom). Contains xs b) is there)) h;
}
  where
    put : (b : Atom) → Contains (taken ++ a ∷ []) b → Contains taken' b
    put b there = subst (λ (xs : List Atom). Contains xs b) (sym is) there

    moved : (b : Atom) → Contains rest' b ⊎ (a ≡ b) → Contains taken' b ⊎ Contains rest' b
    moved b (inl there) = inr there
    moved b (inr same) =
        inl (put b (subst (Contains (taken ++ a ∷ [])) same (Contains-push taken a)))

    to : (b : Atom) → Contains taken b ⊎ Contains rest b → Contains taken' b ⊎ Contains rest' b
    to b (inl there) = inl (put b (Contains-append_left taken (a ∷ []) b there))
    to b (inr there) = moved b ((left b).0 there)

    back : (b : Atom) → Contains taken b ⊎ (a ≡ b) → Contains taken b ⊎ Contains rest b
    back b (inl there) = inl there
    back b (inr same) = inr ((left b).1 (inr same))

    from : (b : Atom) → Contains taken' b ⊎ Contains rest' b → Contains taken b ⊎ Contains rest b
    from b (inl there) =
        back b (Contains-push_cases taken a b (subst (λ (xs : List Atom). Contains xs b) is there))
    from b (inr there) = inr ((left b).1 (inl there))

    meets : (b : Atom) (x : Term) → Contains taken b ⊎ (a ≡ b) → HasTerm b x → Contains more x
    meets b x (inl there) h = adds.kept x (t.met b x there h)
    meets b x (inr same) h = adds.added x (subst (λ (z : Atom). HasTerm z x) (sym same) h)

touched : (known : List Term) (a : Atom) (v : ℕ) → HasTerm a (term.Var v)
    → Contains known (term.Var v) → Touches known a
touched known (atom.Concept c x) v h there = met_by x h where
  met_by : (y : Term) → y ≡ term.Var v → IsMet known y
  met_by y same = subst (IsMet known) (sym same) there
touched known (atom.Role p x y) v (inl h) there = inl (subst (IsMet known) (sym h) there)
touched known (atom.Role p x y) v (inr h) there = inr (subst (IsMet known) (sym h) there)

pub taking-end : (terms known : List Term) (atoms taken rest : List Atom)
    → Taking terms known atoms taken rest → ((a : Atom) → Contains rest a → Touches known a → ⊥)
    → IsSplit terms atoms taken rest
taking-end terms known atoms taken rest t none = record {
  members = t.members;
  apart_from_terms = λ a v there h in_terms.
      none a there (touched known a v h (t.begun (term.Var v) in_terms));
  apart = λ a b v there h in_taken k.
      none a there (touched known a v h (t.met b (term.Var v) in_taken k));
}

-- the head stands in what is joined with it
pub taken_covered : (q : Cq) (taken rest : List Atom) → IsQuery q → IsSplit q.head q.body taken rest
    → HeadIsCovered [] taken q.head
taken_covered q taken rest is split =
    recursion_from_All (IsCovered [] taken) q.head
    (All-from_contains (IsCovered [] taken) q.head
    (λ x there. by x there (covered_cases [] q.body x
    (All-contains (IsCovered [] q.body) q.head x
    (All-from_recursion (IsCovered [] q.body) q.head (query_covered q is)) there))))
  where
    side : (v : ℕ) (a : Atom) → Contains q.head (term.Var v) → HasTerm a (term.Var v)
        → Contains taken a ⊎ Contains rest a → IsCovered [] taken (term.Var v)
    side v a there h (inl in_taken) = covered_member [] taken (term.Var v) a in_taken h
    side v a there h (inr in_rest) = absurd (split.apart_from_terms a v in_rest h there)

    by : (x : Term) → Contains q.head x → IsAssigned [] x
        ⊎ ((a : Atom) × Contains q.body a × HasTerm a x) → IsCovered [] taken x
    by (term.Ind a) there either = bound_covered [] taken (term.Ind a) tt
    by (term.Var v) there (inl assigned) = absurd (cc)
    by (term.Var v) there (inr (a, in_body, h)) = side v a there h ((split.members a).0 in_body)

-- what taking one element out leaves
pub removed : (rest : List Atom) (place : ℕ) (a : Atom) → place < length rest
    → a ≡ get_or rest place a → (b : Atom)
    → Contains rest b ↔ (Contains (remove rest place) b ⊎ (a ≡ b))
removed rest place a within is b =
    let p : IsPermutation rest (a ∷ remove rest place) =
    IsPermutation-more rest [] rest place a within is (IsPermutation-refl rest) in (
      λ there. to (Contains-cons_cases a (remove rest place) b
          (Contains-permutation rest (a ∷ remove rest place) b p there)),
      λ either. Contains-permutation (a ∷ remove rest place) rest b
          (IsPermutation-sym rest (a ∷ remove rest place) p) (from either),
    )
  where
    to : (a ≡ b) ⊎ Contains (remove rest place) b → Contains (remove rest place) b ⊎ (a ≡ b)
    to (inl same) = inr same
    to (inr later) = inl later

    from : Contains (remove rest place) b ⊎ (a ≡ b) → Contains (a ∷ remove rest place) b
    from (inl later) = Contains-later a (remove rest place) b later
    from (inr same) = subst (Contains (a ∷ remove rest place)) same
        (Contains-first a (remove rest place))

pub part_answer : (facts : List Fact) (a : Atom) (old part body rest : List Atom)
    → IsSplit [] (a ∷ old) part rest → IsPermutation part body → (found : Bool)
    → IsTrue found ↔ HasMatch facts body []
    → OnTrue found (HasMatch facts (a ∷ old) [] ↔ HasMatch facts rest [])
    × OnFalse found (HasMatch facts (a ∷ old) [] → ⊥)
part_answer facts a old part body rest split p true is =
    (part_found facts a old part body rest split p (is.0 refl), tt)
part_answer facts a old part body rest split p false is =
    (tt, part_lacking facts a old part body rest split p (λ m. let h = is.1 m in cc))
