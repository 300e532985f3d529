-- A partial assignment stands for the substitutions that extend it, and binding an atom to a fact
-- keeps those that make the atom this fact.
use Rattle.std.specs.Prelude.{◌≡◌, ℕ, List, [], ◌∷◌, ◌++◌, Bool, true, false, ◌==◌, Option, Some}
use Rattle.std.specs.Prelude.{None, cond, refl, MatchOption, IsSome, unwrap_or}
use Rattle.std.proofs.Common.{sym, ◌∙◌, ap, arith, eq-eqb}
use Rattle.std.specs.Option.{option_and_then}
use Rattle.std.proofs.lemmas.Bool.Decides.{nat_tests}
use Rattle.dl_syntax.specs.declared.facts.Element.{Element}
use Rattle.dl_syntax.specs.declared.facts.Element.TheVariants as element
use Rattle.dl_syntax.specs.declared.facts.Fact.{Fact}
use Rattle.dl_syntax.specs.declared.facts.Fact.TheVariants as fact
use Rattle.dl_syntax.specs.declared.queries.Term.{Term}
use Rattle.dl_syntax.specs.declared.queries.Term.TheVariants as term
use Rattle.dl_syntax.specs.declared.queries.Atom.{Atom}
use Rattle.dl_syntax.specs.declared.queries.Atom.TheVariants as atom
use Rattle.dl_syntax.specs.declared.names.ConceptId.{ConceptId}
use Rattle.dl_syntax.specs.declared.names.RoleId.{RoleId}
use Rattle.dl_syntax.specs.Match.{Assignment, term_at, atom_at}
use Rattle.fact_index.specs.Order.{element_eq}
use Rattle.fact_index.proofs.Orders.{element_eq-same, element_eq-refl}
use Rattle.proof_search.specs.declared.bindings.Binding.{Binding}
use Rattle.proof_search.specs.Bindings.{value_of, bind_value, bind_term, bind_atom, Extends}
use Rattle.proof_search.specs.Bindings.{assigned_by}

-- the new bindings stand for the substitutions of the old ones that pass, and keep their elements
pub record Narrows (passes : Assignment → Type 0) (old new : List Binding) : Type 0 where
  pub extends : (t : Assignment) → Extends new t → Extends old t
  pub pass : (t : Assignment) → Extends new t → passes t
  pub back : (t : Assignment) → Extends old t → passes t → Extends new t
  pub keeps : (v : ℕ) → IsSome (value_of old v) → IsSome (value_of new v)

-- the assignment by the bindings extends them
pub Extends-assigned : (bs : List Binding) → Extends bs (assigned_by bs)
Extends-assigned bs = record { at = λ v e h. ap (λ o. unwrap_or o (element.Null 0)) h }

abbrev or_value : Option Element → Option Element → Option Element
or_value None y = y
or_value (Some x) y = Some x

value_at : (b : Bool) (e : Element) (o p q : Option Element) → o ≡ or_value p q
    → cond b (Some e) o ≡ or_value (cond b (Some e) p) q
value_at true e o p q h = refl
value_at false e o p q h = h

value_of-append : (bs cs : List Binding) (v : ℕ)
    → value_of (bs ++ cs) v ≡ or_value (value_of bs v) (value_of cs v)
value_of-append [] cs v = refl
value_of-append (b ∷ bs) cs v =
    value_at (b.variable == v) b.element (value_of (bs ++ cs) v) (value_of bs v) (value_of cs v)
    (value_of-append bs cs v)

value_of-own : (v : ℕ) (e : Element) → value_of (record { variable = v; element = e } ∷ []) v
    ≡ Some e
value_of-own v e = let h : (v == v) ≡ true = eq-eqb v v refl in rw h refl

or_some : (p q : Option Element) → IsSome p → IsSome (or_value p q)
or_some None q h = cc
or_some (Some x) q h = h

-- a test of the element
test_law :
    (bs : List Binding) (passes : Assignment → Type 0) (e d : Element) (b : Bool)
    → element_eq e d ≡ b
    → ((t : Assignment) → Extends bs t → passes t → e ≡ d)
    → ((t : Assignment) → Extends bs t → e ≡ d → passes t)
    → MatchOption (cond b (Some bs) None) ((t : Assignment) → Extends bs t → passes t
    → ⊥) (Narrows passes bs)
test_law bs passes e d true h same back = record {
  extends = λ t x. x;
  pass = λ t x. back t x (element_eq-same e d h);
  back = λ t x p. x;
  keeps = λ v s. s;
}
test_law bs passes e d false h same back = λ t x p.
    let k : element_eq e d ≡ true = ap (λ z. element_eq z d) (same t x p) ∙ element_eq-refl d in cc

-- a new binding, or a test of the old one
value_law :
    (bs : List Binding) (v : ℕ) (e : Element) (o : Option Element) → value_of bs v ≡ o
    → MatchOption (bind_value bs v e o) ((t : Assignment) → Extends bs t → t v ≡ e
    → ⊥) (Narrows (λ t. t v ≡ e) bs)
value_law bs v e (Some d) h =
    test_law bs (λ t. t v ≡ e) e d (element_eq e d) refl (λ t x p. sym p ∙ x.at v d h) (λ t x s.
    x.at v d h ∙ sym s)
value_law bs v e None h =
    let own = record { variable = v; element = e } ∷ [] in
    record {
      extends = λ t x. record {
        at =
            λ w f k. x.at w f (value_of-append bs own w ∙ ap (λ o. or_value o (value_of own w)) k);
      };
      pass = λ t x. x.at v e (value_of-append bs own
          v ∙ (ap (λ o. or_value o (value_of own v)) h ∙ value_of-own v e));
      back = λ t x p. record {
        at = λ w f k.
            new_at t w f (value_of bs w) (v == w) refl refl x p
            (sym (value_of-append bs own w) ∙ k);
      };
      keeps = λ w s. rw (value_of-append bs own w) (or_some (value_of bs w) (value_of own w) s);
    } where
      new_at :
          (t : Assignment) (w : ℕ) (f : Element) (o : Option Element) (b : Bool) → value_of bs w ≡ o
          → (v == w) ≡ b
          → Extends bs t → t v ≡ e → or_value o (cond b (Some e) None) ≡ Some f → t w ≡ f
      new_at t w f (Some d) b h c x p k = x.at w f (h ∙ k)
      new_at t w f None true h c x p k =
          let same : v ≡ w = grind (arith, nat_tests) in
          let g : e ≡ f = cc in
          ap t (sym same) ∙ (p ∙ g)
      new_at t w f None false h c x p k = cc

-- binding a term keeps the substitutions that make it the element
pub bind_term_law :
    (bs : List Binding) (x : Term) (e : Element)
    → MatchOption (bind_term bs x e) ((t : Assignment) → Extends bs t → term_at t x ≡ e
    → ⊥) (Narrows (λ t. term_at t x ≡ e) bs)
bind_term_law bs (term.Ind a) e =
    test_law bs (λ t. element.Ind a ≡ e) e (element.Ind a) (element_eq e (element.Ind a)) refl
    (λ t x p. sym p) (λ t x s. sym s)
bind_term_law bs (term.Var v) e = value_law bs v e (value_of bs v) refl

module _ (passes fits : Assignment → Type 0) (to : (t : Assignment) → passes t
    → fits t) (from : (t : Assignment) → fits t → passes t) (bs : List Binding) where
  -- the same under an equivalent test
  law_by :
      (o : Option (List Binding)) → MatchOption o ((t : Assignment) → Extends bs t → passes t
      → ⊥) (Narrows passes bs)
      → MatchOption o ((t : Assignment) → Extends bs t → fits t → ⊥) (Narrows fits bs)
  law_by None h = λ t x f. h t x (from t f)
  law_by (Some cs) h = record {
    extends = h.extends;
    pass = λ t x. to t (h.pass t x);
    back = λ t x f. h.back t x (from t f);
    keeps = h.keeps;
  }

module _ (one two : Assignment → Type 0) (bs : List Binding) where
  second_law :
      (cs : List Binding) (o : Option (List Binding)) → Narrows one bs cs
      → MatchOption o ((t : Assignment) → Extends cs t → two t → ⊥) (Narrows two cs)
      → MatchOption o ((t : Assignment) → Extends bs t → one t × two t
      → ⊥) (Narrows (λ t. one t × two t) bs)
  second_law cs None n h = λ t x p. h t (n.back t x p.0) p.1
  second_law cs (Some ds) n h = record {
    extends = λ t x. n.extends t (h.extends t x);
    pass = λ t x. (n.pass t (h.extends t x), h.pass t x);
    back = λ t x p. h.back t (n.back t x p.0) p.1;
    keeps = λ v s. h.keeps v (n.keeps v s);
  }

  both_law :
      (o : Option (List Binding)) (next : List Binding → Option (List Binding))
      → MatchOption o ((t : Assignment) → Extends bs t → one t → ⊥) (Narrows one bs)
      → ((cs : List Binding) → MatchOption (next cs) ((t : Assignment) → Extends cs t → two t
      → ⊥) (Narrows two cs))
      → MatchOption (option_and_then next o) ((t : Assignment) → Extends bs t → one t × two t
      → ⊥) (Narrows (λ t. one t × two t) bs)
  both_law None next h k = λ t x p. h t x p.0
  both_law (Some cs) next h k = second_law cs (next cs) h (k cs)

same_concept : (c d : ConceptId) → c.0 ≡ d.0 → c ≡ d
same_concept c d e = ap (λ (n : ℕ). record { 0 = n }) e

same_role : (p q : RoleId) → p.0 ≡ q.0 → p ≡ q
same_role p q e = ap (λ (n : ℕ). record { 0 = n }) e

-- where a test fails, nothing passes
test_first :
    (bs : List Binding) (passes : Assignment → Type 0) (b : Bool) (o : Option (List Binding))
    → (b ≡ true → MatchOption o ((t : Assignment) → Extends bs t → passes t
    → ⊥) (Narrows passes bs))
    → (b ≡ false → (t : Assignment) → passes t → ⊥)
    → MatchOption (cond b o None) ((t : Assignment) → Extends bs t → passes t
    → ⊥) (Narrows passes bs)
test_first bs passes true o kept apart = kept refl
test_first bs passes false o kept apart = λ t x p. apart refl t p

eqb-own : (m n : ℕ) → m ≡ n → (m == n) ≡ false → ⊥
eqb-own m n e h = let k : (m == n) ≡ true = eq-eqb m n e in cc

-- binding an atom keeps the substitutions that make it the fact
pub bind_atom_law :
    (bs : List Binding) (a : Atom) (f : Fact)
    → MatchOption (bind_atom bs a f) ((t : Assignment) → Extends bs t → atom_at t a ≡ f
    → ⊥) (Narrows (λ t. atom_at t a ≡ f) bs)
bind_atom_law bs (atom.Concept c x) (fact.Concept d e) =
    test_first bs (λ t. fact.Concept c (term_at t x)
    ≡ fact.Concept d e) (c.0 == d.0) (bind_term bs x e)
    (λ h. let same : c.0 ≡ d.0 = grind (arith, nat_tests) in
    law_by (λ t. term_at t x ≡ e) (λ t. fact.Concept c (term_at t x) ≡ fact.Concept d e)
    (λ t k. let g : c ≡ d = same_concept c d same in
    cc) (λ t k. cc) bs (bind_term bs x e) (bind_term_law bs x e))
    (λ h t k. let g : c ≡ d = cc in eqb-own c.0 d.0 (ap (λ (z : ConceptId). z.0) g) h)
bind_atom_law bs (atom.Concept c x) (fact.Role q e g) = λ t x k. cc
bind_atom_law bs (atom.Role p x y) (fact.Concept d e) = λ t x k. cc
bind_atom_law bs (atom.Role p x y) (fact.Role q e f) =
    let goal : Assignment → Type 0 = λ t. fact.Role p (term_at t x) (term_at t y)
    ≡ fact.Role q e f in
    let both : Assignment → Type 0 = λ t. (term_at t x ≡ e) × (term_at t y ≡ f) in
    test_first bs goal (p.0 == q.0) (option_and_then (λ cs. bind_term cs y f) (bind_term bs x e))
    (λ h. let same : p.0 ≡ q.0 = grind (arith, nat_tests) in
    law_by both goal
    (λ t k. let g : p ≡ q = same_role p q same in let u : term_at t x ≡ e = k.0 in
    let v : term_at t y ≡ f = k.1 in cc)
    (λ t k. let u : term_at t x ≡ e = cc in let v : term_at t y ≡ f = cc in (u, v)) bs
    (option_and_then (λ cs. bind_term cs y f) (bind_term bs x e))
    (both_law (λ t. term_at t x ≡ e) (λ t. term_at t y ≡ f) bs (bind_term bs x e) (λ cs.
    bind_term cs y f) (bind_term_law bs x e) (λ cs. bind_term_law cs y f)))
    (λ h t k. let g : p ≡ q = cc in eqb-own p.0 q.0 (ap (λ (z : RoleId). z.0) g) h)
