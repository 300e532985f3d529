-- The head of a leaf's query is the answer variables of its body.
use Rattle.std.proofs.Common.{◌≡◌, ℕ, zero, suc, ◌+◌, ◌<◌, ◌≤◌, Bool, true, false, cond, List, []}
use Rattle.std.proofs.Common.{◌∷◌, ◌++◌, length, refl, sym, ap, subst, ◌∙◌, inl, inr, arith}
use Rattle.std.specs.Prelude.{◌⊎◌, ◌||◌}
use Rattle.std.specs.List.{All, AllPairs, Contains}
use Rattle.std.proofs.lemmas.Bool.{cases_lt, eqb-true, eq-eqb}
use Rattle.std.proofs.lemmas.List.{append-nil}
use Rattle.std.proofs.lemmas.List.Elements.{All-push, All-nil, All-weaker, All-contains}
use Rattle.std.proofs.lemmas.List.Elements.{Contains-push, Contains-append_left}
use Rattle.std.proofs.lemmas.List.Elements.{Contains-push_cases}
use Rattle.std.proofs.lemmas.List.Folds.{Any-from_list_any, list_any-from_Any}
use Rattle.dl_syntax.specs.declared.queries.Term.{Term}
use Rattle.dl_syntax.specs.declared.queries.Term.TheVariants as term
use Rattle.dl_syntax.specs.declared.queries.Atom.{Atom}
use Rattle.dl_syntax.specs.declared.queries.Atom.TheVariants as atom
use Rattle.dl_syntax.specs.Ontology.{Declared}
use Rattle.dl_syntax.specs.Queries.{HasTerm, IsBound}
use Rattle.list_lemmas.proofs.Elements.{AllPairs-nil, AllPairs-push, All-from_contains}
use Rattle.list_lemmas.proofs.Elements.{Contains-none}
use Rattle.tcq_syntax.specs.Tcq.{IsLeaf}
use Rattle.tcq_grammar.specs.Grammar as g
use Rattle.tcq_reader.specs.Leaves.{Draft, blank, with_atoms, term_has, atom_has, occurs}
use Rattle.tcq_reader.specs.Leaves.{answer_head, query_of}
use Rattle.tcq_reader.proofs.LeafLemmas.{numbered_atoms, numbered_blank, vars_same, body_length}

term_there : (v : ℕ) (t : Term) → term_has v t ≡ true → t ≡ term.Var v
term_there v (term.Var w) e = ap (λ (n : ℕ). term.Var n) (eqb-true w v e)
term_there v (term.Ind i) e = absurd cc

has_term : (v : ℕ) (t : Term) → t ≡ term.Var v → term_has v t ≡ true
has_term v (term.Var w) e = let same : w ≡ v = cc in eq-eqb w v same
has_term v (term.Ind i) e = absurd cc

either_there : (v : ℕ) (x y : Term) (a : Bool) → term_has v x ≡ a → a || term_has v y ≡ true
    → (x ≡ term.Var v) ⊎ (y ≡ term.Var v)
either_there v x y true e f = inl (term_there v x e)
either_there v x y false e f = inr (term_there v y f)

atom_there : (v : ℕ) (a : Atom) → atom_has v a ≡ true → HasTerm a (term.Var v)
atom_there v (atom.Concept c x) e = term_there v x e
atom_there v (atom.Role p x y) e = either_there v x y (term_has v x) refl e

or_right : (a b : Bool) → b ≡ true → a || b ≡ true
or_right true b e = refl
or_right false b e = e

role_has : (v : ℕ) (x y : Term) → (x ≡ term.Var v) ⊎ (y ≡ term.Var v)
    → term_has v x || term_has v y ≡ true
role_has v x y (inl e) = ap (λ (b : Bool). b || term_has v y) (has_term v x e)
role_has v x y (inr e) = or_right (term_has v x) (term_has v y) (has_term v y e)

has_atom : (v : ℕ) (a : Atom) → HasTerm a (term.Var v) → atom_has v a ≡ true
has_atom v (atom.Concept c x) h = has_term v x h
has_atom v (atom.Role p x y) h = role_has v x y h

occurs_bound : (v : ℕ) (body : List Atom) → occurs v body ≡ true → IsBound body (term.Var v)
occurs_bound v body e = let (k, a, lt, at, has) = Any-from_list_any (atom_has v) body e in
    (k, a, lt, at, atom_there v a has)

bound_occurs : (v : ℕ) (body : List Atom) → IsBound body (term.Var v) → occurs v body ≡ true
bound_occurs v body (k, a, lt, at, has) =
    list_any-from_Any (atom_has v) body (k, a, lt, at, has_atom v a has)

-- ---- the head below a number

abbrev Below : ℕ → Term → Type 0
Below n x = (v : ℕ) × (v < n) × (x ≡ term.Var v)

below_next : (n : ℕ) (x : Term) → Below n x → Below (suc n) x
below_next n x (v, lt, e) = (v, omega arith, e)

abbrev one_if : Bool → ℕ → List Term
one_if b n = cond b (term.Var n ∷ []) []

below_if : (b : Bool) (n : ℕ) (xs : List Term) → All (Below n) xs
    → All (Below (suc n)) (xs ++ one_if b n)
below_if true n xs h = All-push (Below (suc n)) xs (term.Var n)
    (All-weaker (Below n) (Below (suc n)) (below_next n) xs h) (n, omega arith, refl)
below_if false n xs h = subst (All (Below (suc n))) (sym (append-nil xs))
    (All-weaker (Below n) (Below (suc n)) (below_next n) xs h)

abbrev Rises : Term → Term → Type 0
Rises x y = (v w : ℕ) → x ≡ term.Var v → y ≡ term.Var w → v < w

rises_to : (n : ℕ) (xs : List Term) → All (Below n) xs → (x : Term) → Contains xs x
    → Rises x (term.Var n)
rises_to n xs h x is v w e f =
    let (u, lt, at) = All-contains (Below n) xs x h is in
    let same : u ≡ v = let t : term.Var u ≡ term.Var v = sym at ∙ e in cc in
    let last : n ≡ w = cc in
    omega (arith, same, last, lt)

rises_if : (b : Bool) (n : ℕ) (xs : List Term) → All (Below n) xs → AllPairs Rises xs
    → AllPairs Rises (xs ++ one_if b n)
rises_if true n xs h r = AllPairs-push Rises xs (term.Var n) r (rises_to n xs h)
rises_if false n xs h r = subst (AllPairs Rises) (sym (append-nil xs)) r

module _ (body : List Atom) where
  below : (n : ℕ) → All (Below n) (answer_head n body)
  below zero = All-nil (Below 0)
  below (suc n) = below_if (occurs n body) n (answer_head n body) (below n)

  rising : (n : ℕ) → AllPairs Rises (answer_head n body)
  rising zero = AllPairs-nil Rises
  rising (suc n) = rises_if (occurs n body) n (answer_head n body) (below n) (rising n)

  abbrev IsMember : ℕ → List Term → ℕ → Type 0
  IsMember n xs v = (v < n) × IsBound body (term.Var v)

  last_member : (n v : ℕ) (xs : List Term) → occurs n body ≡ true
      → (Contains xs (term.Var v) → IsMember n xs v)
      → Contains xs (term.Var v) ⊎ (term.Var n ≡ term.Var v) → IsMember (suc n) xs v
  last_member n v xs e h (inl earlier) = let m = h earlier in (omega (arith, m.0), m.1)
  last_member n v xs e h (inr same) = let f : n ≡ v = cc in
      (omega (arith, f), subst (λ (w : ℕ). IsBound body (term.Var w)) f (occurs_bound n body e))

  to_member : (b : Bool) (n v : ℕ) (xs : List Term) → occurs n body ≡ b
      → (Contains xs (term.Var v) → IsMember n xs v) → Contains (xs ++ one_if b n) (term.Var v)
      → IsMember (suc n) xs v
  to_member true n v xs e h is =
      last_member n v xs e h (Contains-push_cases xs (term.Var n) (term.Var v) is)
  to_member false n v xs e h is = let m =
      h (subst (λ (l : List Term). Contains l (term.Var v)) (append-nil xs) is) in
      (omega (arith, m.0), m.1)

  from_last : (b : Bool) (n v : ℕ) (xs : List Term) → occurs n body ≡ b → n ≡ v
      → IsBound body (term.Var v) → Contains (xs ++ one_if b n) (term.Var v)
  from_last true n v xs e f bound =
      subst (λ (w : ℕ). Contains (xs ++ term.Var n ∷ []) (term.Var w)) f
      (Contains-push xs (term.Var n))
  from_last false n v xs e f bound = let yes : occurs n body ≡ true =
      ap (λ (w : ℕ). occurs w body) f ∙ bound_occurs v body bound in absurd cc

  from_member : (b : Bool) (n v : ℕ) (xs : List Term) → occurs n body ≡ b
      → (IsMember n xs v → Contains xs (term.Var v)) → IsMember (suc n) xs v → (v < n) ⊎ (n ≤ v)
      → Contains (xs ++ one_if b n) (term.Var v)
  from_member b n v xs e h m (inl lt) =
      Contains-append_left xs (one_if b n) (term.Var v) (h (lt, m.1))
  from_member b n v xs e h m (inr le) = from_last b n v xs e (omega (arith, m.0)) m.1

  pub is_member : (n v : ℕ) → Contains (answer_head n body) (term.Var v)
      → IsMember n (answer_head n body) v
  is_member zero v is = absurd (Contains-none (term.Var v) is)
  is_member (suc n) v is = to_member (occurs n body) n v (answer_head n body) refl (is_member n v)
      is

  pub member_is : (n v : ℕ) → IsMember n (answer_head n body) v
      → Contains (answer_head n body) (term.Var v)
  member_is zero v m = absurd (omega (arith, m.0))
  member_is (suc n) v m = from_member (occurs n body) n v (answer_head n body) refl (member_is n v)
      m (cases_lt v n)

  bound_term : (n : ℕ) (x : Term) → Contains (answer_head n body) x → IsBound body x
  bound_term n x is =
      let (v, lt, e) = All-contains (Below n) (answer_head n body) x (below n) is in
      subst (IsBound body) (sym e) (is_member n v (subst (Contains (answer_head n body)) e is)).1

-- the query of a draft with 1 to 8 atoms is a leaf's
pub is_leaf : (o : Declared) (variables : List (List ℕ)) (atoms : List g.Atom) → 1 ≤ length atoms
    → length atoms ≤ 8
    → IsLeaf (length variables) (query_of (with_atoms o (blank variables) atoms))
is_leaf o variables atoms some few =
    let d : Draft = with_atoms o (blank variables) atoms in
    let vars : d.vars ≡ length variables = vars_same o (blank variables) atoms in
    let long : length d.body ≡ 0 + length atoms = body_length o (blank variables) atoms in
    subst (λ (n : ℕ). IsLeaf n (query_of d)) vars (record {
      query = record {
        some_atom = omega (arith, long);
        few_atoms = omega (arith, long);
        head_bound = All-from_contains (IsBound d.body) (answer_head d.vars d.body)
            (bound_term d.body d.vars);
      };
      head = record {
        rising = rising d.body d.vars;
        variables = All-weaker (Below d.vars) (λ x. (v : ℕ)
            × (x ≡ term.Var v)) (λ x b. (b.0, b.2)) (answer_head d.vars d.body)
            (below d.body d.vars);
        member = λ v. (is_member d.body d.vars v, member_is d.body d.vars v);
      };
      numbered = (numbered_atoms o (blank variables) atoms (numbered_blank variables)).numbered;
    })
