-- A walk through the pairs of two roles in one order.
use Rattle.std.proofs.Common.{◌≡◌, ℕ, ◌+◌, ◌<◌, ◌≤◌, Bool, true, false, List, length, get_or, refl}
use Rattle.std.proofs.Common.{sym, ◌∙◌, ap, subst, inl, inr, arith}
use Rattle.std.specs.Prelude.{◌⊎◌, ◌↔◌, ◌==◌, Some, slice_get, if◌then◌else◌}
use Rattle.std.specs.List.{Contains, filter}
use Rattle.std.specs.List.Sorted.{IsStrictlySortedBy}
use Rattle.std.specs.Ordering.{is_lt, nat_cmp, ordering_then, ordering_reverse}
use Rattle.std.specs.declared.cmp.Ordering.{Ordering}
use Rattle.std.specs.declared.cmp.Ordering.TheVariants.{Less, Equal, Greater}
use Rattle.std.specs.Cmp.{IsTotalOrder}
use Rattle.std.proofs.lemmas.Bool.{cases_lt}
use Rattle.std.proofs.lemmas.Cmp.{tied_itself, nat_cmp_total}
use Rattle.std.proofs.lemmas.List.Sorted.{sorted_far, ranks_by}
use Rattle.std.proofs.lemmas.Option.{slice_get-get_or, slice_get_within, get_or_from_slice_get}
use Rattle.std.proofs.lemmas.Bool.Decides.{nat_tests}
use Rattle.dl_syntax.specs.declared.names.RoleId.{RoleId}
use Rattle.dl_syntax.specs.declared.facts.Element.{Element}
use Rattle.dl_syntax.specs.declared.facts.Fact.{Fact}
use Rattle.dl_syntax.specs.declared.facts.Fact.TheVariants as fact
use Rattle.dl_syntax.specs.declared.queries.Term.{Term}
use Rattle.dl_syntax.specs.Match.{Assignment, term_at}
use Rattle.fact_index.specs.Order.{fact_cmp, last_cmp, element_cmp, is_of_role}
use Rattle.fact_index.proofs.Orders.{fact_cmp-total, last_cmp-total}
use Rattle.list_lemmas.proofs.Filters.{sorted_from_strict, Contains-filter}
use Rattle.consistency.specs.Pairs.{as_fact_of, Rises, Passed}

then_same : (m n : ℕ) (o : Ordering) → m ≡ n → ordering_then (nat_cmp m n) o ≡ o
then_same m n o e = ap (λ a. ordering_then a o)
    (subst (λ k. nat_cmp m k ≡ Equal) e (tied_itself nat_cmp_total m))

same_number : (m n k : ℕ) → (m == k) ≡ true → (n == k) ≡ true → m ≡ n
same_number m n k a b = grind (arith, nat_tests)

-- facts of one role compare as facts of another
compared : (id q : RoleId) (f g : Fact) → is_of_role q f ≡ true → is_of_role q g ≡ true
    → fact_cmp (as_fact_of id false g) (as_fact_of id false f) ≡ fact_cmp g f
compared id q (fact.Concept c x) g a b = absurd (cc)
compared id q (fact.Role p x y) (fact.Concept c z) a b = absurd (cc)
compared id q (fact.Role p x y) (fact.Role r z w) a b =
    then_same id.0 id.0 (ordering_then (element_cmp z x) (element_cmp w y)) refl ∙ sym
    (then_same r.0 p.0 (ordering_then (element_cmp z x) (element_cmp w y))
    (same_number r.0 p.0 q.0 b a))

compared_turned : (id q : RoleId) (f g : Fact) → is_of_role q f ≡ true → is_of_role q g ≡ true
    → fact_cmp (as_fact_of id true g) (as_fact_of id true f) ≡ last_cmp g f
compared_turned id q (fact.Concept c x) g a b = absurd (cc)
compared_turned id q (fact.Role p x y) (fact.Concept c z) a b = absurd (cc)
compared_turned id q (fact.Role p x y) (fact.Role r z w) a b =
    then_same id.0 id.0 (ordering_then (element_cmp w y) (element_cmp z x)) refl ∙ sym
    (then_same r.0 p.0 (ordering_then (element_cmp w y) (element_cmp z x))
    (same_number r.0 p.0 q.0 b a))

rises_by : (id q : RoleId) (turned : Bool) (R : Fact → Fact
    → Ordering) (o : IsTotalOrder R) (facts : List Fact) → IsStrictlySortedBy R facts
    → ((f : Fact) → Contains facts f → is_of_role q f ≡ true)
    → ((f g : Fact) → is_of_role q f ≡ true → is_of_role q g ≡ true
    → fact_cmp (as_fact_of id turned g) (as_fact_of id turned f) ≡ R g f) → Rises id turned facts
rises_by id q turned R o facts strict of same = record { later = later }
  where
    later : (k l : ℕ) (f g : Fact) → k ≤ l → slice_get facts k ≡ Some f → slice_get facts l ≡ Some g
        → is_lt (fact_cmp (as_fact_of id turned g) (as_fact_of id turned f)) ≡ false
    later k l f g le first second =
        let far : is_lt (R (get_or facts l f) (get_or facts k f)) ≡ false =
        sorted_far (λ x y. is_lt (R x y)) (ranks_by o (λ x. x)) facts
        (sorted_from_strict o facts strict) k l f le (slice_get_within facts l g second) in
        let at_first : get_or facts k f ≡ f = get_or_from_slice_get facts k f f first in
        let at_second : get_or facts l f ≡ g = get_or_from_slice_get facts l g f second in
        let there : Contains facts f = (k, slice_get_within facts k f first, at_first) in
        let here : Contains facts g =
        (l, slice_get_within facts l g second, get_or_from_slice_get facts l g g second) in
        ap is_lt (same f g (of f there) (of g here) ∙ ap (λ z. R z f) (sym at_second) ∙ ap (λ z.
        R (get_or facts l f) z) (sym at_first)) ∙ far

-- the index's facts of a role rise
pub rises_role : (index : List Fact) (id q : RoleId) (turned : Bool) (facts : List Fact)
    → ((f : Fact) → Contains facts f ↔ Contains (filter (is_of_role q) index) f)
    → (turned ≡ false → IsStrictlySortedBy fact_cmp facts)
    → (turned ≡ true → IsStrictlySortedBy last_cmp facts) → Rises id turned facts
rises_role index id q true facts members first second =
    rises_by id q true last_cmp last_cmp-total facts (second refl) (λ f there.
    ((Contains-filter (is_of_role q) index f).0 ((members f).0 there)).1) (λ f g a b.
    compared_turned id q f g a b)
rises_role index id q false facts members first second =
    rises_by id q false fact_cmp fact_cmp-total facts (first refl) (λ f there.
    ((Contains-filter (is_of_role q) index f).0 ((members f).0 there)).1) (λ f g a b.
    compared id q f g a b)

pub role_has : (index : List Fact) (q : RoleId) (facts : List Fact)
    → ((f : Fact) → Contains facts f ↔ Contains (filter (is_of_role q) index) f) → (x y : Element)
    → Contains index (fact.Role q x y) → Contains facts (fact.Role q x y)
role_has index q facts members x y there =
    (members (fact.Role q x y)).1 ((Contains-filter (is_of_role q) index (fact.Role q x y)).1
    (there, own q.0))
  where
    own : (n : ℕ) → (n == n) ≡ true
    own n = grind (arith, nat_tests)

module _ (id : RoleId) (turned : Bool) (one other : List Fact) where
  pub Passed-start : Passed id turned one other 0 0
  Passed-start = record {
    first = λ k l f g below at there same. absurd (omega arith);
    second = λ k l f g below at there same. absurd (omega arith);
  }

  module _ (left right : ℕ) (a b : Fact) (at : slice_get one left
      ≡ Some a) (there : slice_get other right
      ≡ Some b) (before : Passed id turned one other left right) where
    one_at : (k : ℕ) (f : Fact) → k ≡ left → slice_get one k ≡ Some f → f ≡ a
    one_at k f same here = let now : slice_get one left ≡ Some f =
        subst (λ (n : ℕ). slice_get one n ≡ Some f) same here in cc

    other_at : (l : ℕ) (g : Fact) → l ≡ right → slice_get other l ≡ Some g → g ≡ b
    other_at l g same here = let now : slice_get other right ≡ Some g =
        subst (λ (n : ℕ). slice_get other n ≡ Some g) same here in cc

    pub Passed-less : Rises id turned other
        → fact_cmp (as_fact_of id false a) (as_fact_of id turned b) ≡ Less
        → Passed id turned one other (left + 1) right
    Passed-less rises less = record { first = first; second = before.second }
      where
        here : (l : ℕ) (g : Fact) → right ≤ l → slice_get other l ≡ Some g
            → as_fact_of id false a ≡ as_fact_of id turned g → ⊥
        here l g le found same =
            let late : is_lt (fact_cmp (as_fact_of id turned g) (as_fact_of id turned b)) ≡ false =
            rises.later right l b g le there found in
            let early : is_lt (fact_cmp (as_fact_of id turned g) (as_fact_of id turned b)) ≡ true =
            ap (λ (z : Fact). is_lt (fact_cmp z (as_fact_of id turned b))) (sym same) ∙ ap is_lt
            less in
            cc

        first : (k l : ℕ) (f g : Fact) → k < left + 1 → slice_get one k ≡ Some f
            → slice_get other l ≡ Some g → as_fact_of id false f ≡ as_fact_of id turned g → ⊥
        first k l f g below found far same =
            elim (cases_lt k left) [
              | inl early ↦ before.first k l f g early found far same
              | inr late ↦ elim (cases_lt l right) [
                | inl passed ↦ before.second k l f g passed found far same
                | inr ahead ↦
                    here l g ahead far
                    (ap (as_fact_of id false) (sym (one_at k f (omega arith) found)) ∙ same)
              ]
            ]

    pub Passed-greater : Rises id false one
        → fact_cmp (as_fact_of id false a) (as_fact_of id turned b) ≡ Greater
        → Passed id turned one other left (right + 1)
    Passed-greater rises greater = record { first = before.first; second = second }
      where
        turned_about : fact_cmp (as_fact_of id turned b) (as_fact_of id false a) ≡ Less
        turned_about = fact_cmp-total.antisymm (as_fact_of id turned b) (as_fact_of id false a) ∙ ap
            ordering_reverse greater

        here : (k : ℕ) (f : Fact) → left ≤ k → slice_get one k ≡ Some f
            → as_fact_of id false f ≡ as_fact_of id turned b → ⊥
        here k f le found same =
            let late : is_lt (fact_cmp (as_fact_of id false f) (as_fact_of id false a)) ≡ false =
            rises.later left k a f le at found in
            let early : is_lt (fact_cmp (as_fact_of id false f) (as_fact_of id false a)) ≡ true =
            ap (λ (z : Fact). is_lt (fact_cmp z (as_fact_of id false a))) same ∙ ap is_lt
            turned_about in
            cc

        second : (k l : ℕ) (f g : Fact) → l < right + 1 → slice_get one k ≡ Some f
            → slice_get other l ≡ Some g → as_fact_of id false f ≡ as_fact_of id turned g → ⊥
        second k l f g below found far same =
            elim (cases_lt l right) [
              | inl early ↦ before.second k l f g early found far same
              | inr late ↦ elim (cases_lt k left) [
                | inl passed ↦ before.first k l f g passed found far same
                | inr ahead ↦
                    here k f ahead found
                    (same ∙ ap (as_fact_of id turned) (other_at l g (omega arith) far))
              ]
            ]

  pub Passed-all : (left right : ℕ) → Passed id turned one other left right
      → (length one ≤ left) ⊎ (length other ≤ right) → (f g : Fact) → Contains one f
      → Contains other g → as_fact_of id false f ≡ as_fact_of id turned g → ⊥
  Passed-all left right passed end f g (k, within, is) (l, inside, that) same =
      let first : slice_get one k ≡ Some f = slice_get-get_or one k f within ∙ ap Some is in
      let second : slice_get other l ≡ Some g = slice_get-get_or other l g inside ∙ ap Some that in
      elim end [
        | inl all ↦ passed.first k l f g (omega arith) first second same
        | inr all ↦ passed.second k l f g (omega arith) first second same
      ]

-- a pair of the first role that is one of the second too, turned or not, is one fact
pub common_pair : (first second : RoleId) (turned : Bool) (index one other : List Fact)
    → ((x y : Element) → Contains index (fact.Role first x y) → Contains one (fact.Role first x y))
    → ((x y : Element) → Contains index (fact.Role second x y)
    → Contains other (fact.Role second x y))
    → ((f g : Fact) → Contains one f → Contains other g
    → as_fact_of first false f ≡ as_fact_of first turned g → ⊥)
    → (x y : Element) → Contains index (fact.Role first x y)
    → Contains index (if turned then fact.Role second y x else fact.Role second x y) → ⊥
common_pair first second true index one other left right none x y here there =
    none (fact.Role first x y) (fact.Role second y x) (left x y here) (right y x there) refl
common_pair first second false index one other left right none x y here there =
    none (fact.Role first x y) (fact.Role second x y) (left x y here) (right x y there) refl

-- at terms, the pairs as they stand
pub straight_terms : (facts : List Fact) (first second : RoleId) (x y z w : Term) → x ≡ z → y ≡ w
    → ((a b : Element) → Contains facts (fact.Role first a b)
    → Contains facts (fact.Role second a b) → ⊥)
    → (t : Assignment) → Contains facts (fact.Role first (term_at t x) (term_at t y))
    → Contains facts (fact.Role second (term_at t z) (term_at t w)) → ⊥
straight_terms facts first second x y z w same alike none t here there =
    none (term_at t x) (term_at t y) here
    (subst (λ (u : Term). Contains facts (fact.Role second (term_at t x) (term_at t u))) (sym alike)
    (subst (λ (u : Term). Contains facts (fact.Role second (term_at t u) (term_at t w))) (sym same)
    there))

-- and turned
pub turned_terms : (facts : List Fact) (first second : RoleId) (x y z w : Term) → x ≡ w → y ≡ z
    → ((a b : Element) → Contains facts (fact.Role first a b)
    → Contains facts (fact.Role second b a) → ⊥)
    → (t : Assignment) → Contains facts (fact.Role first (term_at t x) (term_at t y))
    → Contains facts (fact.Role second (term_at t z) (term_at t w)) → ⊥
turned_terms facts first second x y z w same alike none t here there =
    none (term_at t x) (term_at t y) here
    (subst (λ (u : Term). Contains facts (fact.Role second (term_at t y) (term_at t u))) (sym same)
    (subst (λ (u : Term). Contains facts (fact.Role second (term_at t u) (term_at t w))) (sym alike)
    there))
