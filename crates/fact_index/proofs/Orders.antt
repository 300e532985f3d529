-- The orders of elements and facts are total, and ties are equal.
use Rattle.std.specs.Prelude.{◌≡◌, ℕ, Bool, true, refl}
use Rattle.std.specs.Ordering.{is_eq, nat_cmp, ordering_then, eq_by_cmp}
use Rattle.std.specs.declared.cmp.Ordering.TheVariants.{Less, Equal, Greater}
use Rattle.std.proofs.Common.{sym, ◌∙◌, ap}
use Rattle.std.proofs.lemmas.Map.Lookups.{CmpEqualImpliesEq, exact_unsigned}
use Rattle.std.proofs.lemmas.Cmp.{tied_itself, eq_by_cmp_equiv, on_total}
use Rattle.std.specs.declared.cmp.Ordering.{Ordering}
use Rattle.std.specs.Cmp.{IsTotalOrder, IsEquivalence}
use Rattle.dl_syntax.specs.declared.facts.Element.{Element}
use Rattle.dl_syntax.specs.declared.facts.Element.TheVariants as element
use Rattle.dl_syntax.specs.declared.facts.Fact.{Fact}
use Rattle.dl_syntax.specs.declared.facts.Fact.TheVariants as fact
use Rattle.dl_syntax.specs.contracts.facts.FactOrd.TheImpl.Laws as fact_laws
use Rattle.dl_syntax.specs.contracts.facts.FactPartialEq.TheImpl as fact_eq_impl
use Rattle.dl_syntax.specs.contracts.facts.ElementOrd.TheImpl.Laws as element_laws
use Rattle.fact_index.specs.Order.{element_cmp, element_eq, fact_cmp, last_cmp, turned_of}

pub element_cmp-total : IsTotalOrder element_cmp
element_cmp-total = element_laws.total-law

pub fact_cmp-total : IsTotalOrder fact_cmp
fact_cmp-total = fact_laws.total-law

pub last_cmp-total : IsTotalOrder last_cmp
last_cmp-total = on_total turned_of fact_cmp-total

then_first : (a b : Ordering) → ordering_then a b ≡ Equal → a ≡ Equal
then_first Less b h = h
then_first Equal b h = refl
then_first Greater b h = h

then_second : (a b : Ordering) → ordering_then a b ≡ Equal → b ≡ Equal
then_second Less b h = cc
then_second Equal b h = h
then_second Greater b h = cc

equal_first : (a : Ordering) → a ≡ Equal → a ≡ Equal
equal_first a h = h

equal_of : (a : Ordering) → is_eq a ≡ true → a ≡ Equal
equal_of Less h = cc
equal_of Equal h = refl
equal_of Greater h = cc

pub exact_elements : CmpEqualImpliesEq element_cmp
exact_elements (element.Ind a) (element.Ind b) h =
    ap (λ (n : ℕ). element.Ind (record { 0 = n }))
    (exact_unsigned a.0 b.0 (equal_first (nat_cmp a.0 b.0) h))
exact_elements (element.Ind a) (element.Null n) h = cc
exact_elements (element.Null m) (element.Ind b) h = cc
exact_elements (element.Null m) (element.Null n) h =
    ap (λ (n : ℕ). element.Null n) (exact_unsigned m n (equal_first (nat_cmp m n) h))

pub exact_facts : CmpEqualImpliesEq fact_cmp
exact_facts (fact.Concept c x) (fact.Concept d y) h =
    let e : c.0 ≡ d.0 = exact_unsigned c.0 d.0 (then_first (nat_cmp c.0 d.0) (element_cmp x y) h) in
    let f : x ≡ y = exact_elements x y (then_second (nat_cmp c.0 d.0) (element_cmp x y) h) in
    ap (λ (n : ℕ). fact.Concept (record { 0 = n }) x) e ∙ ap (λ (z : Element). fact.Concept d z) f
exact_facts (fact.Concept c x) (fact.Role q z w) h = cc
exact_facts (fact.Role p x y) (fact.Concept d z) h = cc
exact_facts (fact.Role p x y) (fact.Role q z w) h =
    let o : Ordering = ordering_then (element_cmp x z) (element_cmp y w) in
    let e : p.0 ≡ q.0 = exact_unsigned p.0 q.0
    (then_first (nat_cmp p.0 q.0) (ordering_then (element_cmp x z) (element_cmp y w)) h) in
    let s : ordering_then (element_cmp x z) (element_cmp y w) ≡ Equal =
    then_second (nat_cmp p.0 q.0) (ordering_then (element_cmp x z) (element_cmp y w)) h in
    let f : x ≡ z = exact_elements x z (then_first (element_cmp x z) (element_cmp y w) s) in
    let g : y ≡ w = exact_elements y w (then_second (element_cmp x z) (element_cmp y w) s) in
    ap (λ (n : ℕ). fact.Role (record { 0 = n }) x y)
    e ∙ (ap (λ (u : Element). fact.Role q u y) f ∙ ap (λ (u : Element). fact.Role q z u) g)

pub element_eq-same : (a b : Element) → element_eq a b ≡ true → a ≡ b
element_eq-same a b h = exact_elements a b (equal_of (element_cmp a b) h)

pub element_eq-refl : (a : Element) → element_eq a a ≡ true
element_eq-refl a = rw (tied_itself element_cmp-total a) refl

-- `==` of facts is the order's
abbrev pub fact_eq : Fact → Fact → Bool
fact_eq = (fact_eq_impl.ghosts).eq

pub fact_eq-ties : (a b : Fact) → fact_eq a b ≡ eq_by_cmp fact_cmp a b
fact_eq-ties = fact_laws.matches_eq-law

pub fact_eq-same : (a b : Fact) → fact_eq a b ≡ true → a ≡ b
fact_eq-same a b h = exact_facts a b (equal_of (fact_cmp a b) (sym (fact_eq-ties a b) ∙ h))

pub fact_eq-equiv : IsEquivalence fact_eq
fact_eq-equiv = record {
  refl = λ x. fact_eq-ties x x ∙ ap is_eq (tied_itself fact_cmp-total x);
  symm = λ x y. fact_eq-ties x y ∙ ((eq_by_cmp_equiv fact_cmp-total).symm x y ∙ sym
      (fact_eq-ties y x));
  congr = λ x y z h. fact_eq-ties x z ∙ ((eq_by_cmp_equiv fact_cmp-total).congr x y z
      (sym (fact_eq-ties x y) ∙ h) ∙ sym (fact_eq-ties y z));
}
