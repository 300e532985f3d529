-- What the slices of an index hold.
use Rattle.std.proofs.Common.{
  ◌≡◌,
  ◌==◌,
  ℕ,
  Bool,
  true,
  false,
  cond,
  List,
  [],
  ◌∷◌,
  length,
  refl,
  sym,
  ◌∙◌,
  ap,
  subst,
  arith,
  eq-eqb,
}
use Rattle.std.specs.Prelude.{◌↔◌, IsTrue, not, Option, None, Some}
use Rattle.std.specs.List.{Any, Contains, filter}
use Rattle.std.proofs.lemmas.Bool.{eqb-true}
use Rattle.dl_syntax.specs.declared.names.ConceptId.{ConceptId}
use Rattle.dl_syntax.specs.declared.names.RoleId.{RoleId}
use Rattle.dl_syntax.specs.declared.facts.Element.{Element}
use Rattle.dl_syntax.specs.declared.facts.Fact.{Fact}
use Rattle.dl_syntax.specs.declared.facts.Fact.TheVariants as fact
use Rattle.dl_syntax.specs.declared.ontology.Role.{Role}
use Rattle.dl_syntax.specs.declared.ontology.Basic.TheVariants as basic
use Rattle.dl_syntax.specs.Facts.{In, Pair, pair_in, role_fact}
use Rattle.dl_syntax.proofs.FactLaws.{pair_in-Pair}
use Rattle.list_lemmas.proofs.Elements.{Contains-none, Contains-first}
use Rattle.list_lemmas.proofs.Filters.{Contains-filter}
use Rattle.fact_index.specs.Order.{is_of_concept, is_of_role, first_of, last_of, element_eq}
use Rattle.fact_index.proofs.Orders.{element_eq-same, element_eq-refl}
use Rattle.model_audit.specs.FiniteModels.{IsMember, HasPartner, ShowsPartner, ShowsMember}

concept_to : (id : ConceptId) (f : Fact) → is_of_concept id f ≡ true → (e : Element)
    × (f ≡ fact.Concept id e)
concept_to id (fact.Concept c x) is =
    (x, ap (λ (n : ℕ). fact.Concept (record { 0 = n }) x) (eqb-true c.0 id.0 is))
concept_to id (fact.Role p x y) is = absurd (cc)

concept_from : (id : ConceptId) (f : Fact) (e : Element) → f ≡ fact.Concept id e
    → is_of_concept id f ≡ true
concept_from id f e is = ap (is_of_concept id) is ∙ eq-eqb id.0 id.0 refl

role_to : (p : RoleId) (f : Fact) → is_of_role p f ≡ true → (x y : Element) × (f ≡ fact.Role p x y)
role_to p (fact.Concept c x) is = absurd (cc)
role_to p (fact.Role r x y) is =
    (x, y, ap (λ (n : ℕ). fact.Role (record { 0 = n }) x y) (eqb-true r.0 p.0 is))

pair_of_role : (b : Bool) (p : RoleId) (x y : Element)
    → (e e' : Element) × (fact.Role p x y ≡ cond b (fact.Role p e' e) (fact.Role p e e'))
pair_of_role true p x y = (y, x, refl)
pair_of_role false p x y = (x, y, refl)

role_of_pair : (b : Bool) (p : RoleId) (e e' : Element)
    → is_of_role p (cond b (fact.Role p e' e) (fact.Role p e e')) ≡ true
role_of_pair true p e e' = eq-eqb p.0 p.0 refl
role_of_pair false p e e' = eq-eqb p.0 p.0 refl

module _ (index result : List Fact) where
  pub concept_members : (id : ConceptId) → result ≡ filter (is_of_concept id) index → (f : Fact)
      → Contains result f ↔ (Contains index f × ((e : Element) × (f ≡ fact.Concept id e)))
  concept_members id is f = (
    λ there.
        let both : Contains index f × (is_of_concept id f ≡ true) =
        (Contains-filter (is_of_concept id) index f).0
        (subst (λ (fs : List Fact). Contains fs f) is there) in
        (both.0, concept_to id f both.1),
    λ (there, (e, same)).
        subst (λ (fs : List Fact). Contains fs f) (sym is)
        ((Contains-filter (is_of_concept id) index f).1 (there, concept_from id f e same)),
  )

  pub role_members : (r : Role)
      → ((f : Fact) → Contains result f ↔ Contains (filter (is_of_role r.id) index) f) → (f : Fact)
      → Contains result f ↔ (Contains index f × ((e e' : Element) × Pair r e e' f))
  role_members r same f = (
    λ there.
        let both : Contains index f × (is_of_role r.id f ≡ true) =
        (Contains-filter (is_of_role r.id) index f).0 ((same f).0 there) in
        let found : (x y : Element) × (f ≡ fact.Role r.id x y) = role_to r.id f both.1 in
        let pair : (e e' : Element) × (fact.Role r.id found.0 found.1 ≡ role_fact r e e') =
        pair_of_role r.inverse r.id found.0 found.1 in
        (both.0, (pair.0, pair.1, found.2 ∙ pair.2)),
    λ (there, (e, e', is)).
        (same f).1 ((Contains-filter (is_of_role r.id) index f).1
        (there, ap (is_of_role r.id) is ∙ role_of_pair r.inverse r.id e e')),
  )

  -- those of some role, one element named
  pub some_members : (r : Role)
      → ((f : Fact) → Contains result f ↔ (Contains index f × ((e e' : Element) × Pair r e e' f)))
      → (f : Fact) → Contains result f
      ↔ (Contains index f × ((e : Element) × In (basic.Some r) e f))
  some_members r same f = (
    λ there. let found : Contains index f × ((e e' : Element) × Pair r e e' f) = (same f).0 there in
        (found.0, (found.1.0, (found.1.1, found.1.2))),
    λ (there, (e, (e', is))). (same f).1 (there, (e, e', is)),
  )

-- a fact of a role with the element at one place
first_pair : (b : Bool) (p : RoleId) (x : Element) (f : Fact) → b ≡ false → is_of_role p f ≡ true
    → element_eq (first_of f) x ≡ true
    → (e : Element) × (f ≡ cond b (fact.Role p e x) (fact.Role p x e))
first_pair true p x f straight is at = absurd (cc)
first_pair false p x f straight is at =
    let found : (y z : Element) × (f ≡ fact.Role p y z) = role_to p f is in
    let same : found.0 ≡ x = sym (ap first_of found.2) ∙ element_eq-same (first_of f) x at in
    (found.1, found.2 ∙ ap (λ (y : Element). fact.Role p y found.1) same)

last_pair : (b : Bool) (p : RoleId) (x : Element) (f : Fact) → b ≡ true → is_of_role p f ≡ true
    → element_eq (last_of f) x ≡ true
    → (e : Element) × (f ≡ cond b (fact.Role p e x) (fact.Role p x e))
last_pair false p x f turned is at = absurd (cc)
last_pair true p x f turned is at =
    let found : (y z : Element) × (f ≡ fact.Role p y z) = role_to p f is in
    let same : found.1 ≡ x = sym (ap last_of found.2) ∙ element_eq-same (last_of f) x at in
    (found.0, found.2 ∙ ap (λ (z : Element). fact.Role p found.0 z) same)

pair_first : (b : Bool) (p : RoleId) (x e : Element) → b ≡ false
    → element_eq (first_of (cond b (fact.Role p e x) (fact.Role p x e))) x ≡ true
pair_first true p x e straight = absurd (cc)
pair_first false p x e straight = element_eq-refl x

pair_last : (b : Bool) (p : RoleId) (x e : Element) → b ≡ true
    → element_eq (last_of (cond b (fact.Role p e x) (fact.Role p x e))) x ≡ true
pair_last true p x e turned = element_eq-refl x
pair_last false p x e turned = absurd (cc)

module _ (index slice result : List Fact) (r : Role) (x : Element)
    (members : (f : Fact) → Contains slice f ↔ Contains (filter (is_of_role r.id) index) f) where
  pub first_partners : r.inverse ≡ false → result ≡ filter (λ f. element_eq (first_of f) x) slice
      → (f : Fact)
      → Contains result f ↔ (Contains index f × ((e : Element) × Pair r x e f))
  first_partners straight is f = (
    λ there.
        let both : Contains slice f × (element_eq (first_of f) x ≡ true) =
        (Contains-filter (λ g. element_eq (first_of g) x) slice f).0
        (subst (λ (fs : List Fact). Contains fs f) is there) in
        let inside : Contains index f × (is_of_role r.id f ≡ true) =
        (Contains-filter (is_of_role r.id) index f).0 ((members f).0 both.0) in
        (inside.0, first_pair r.inverse r.id x f straight inside.1 both.1),
    λ (there, (e, pair)).
        subst (λ (fs : List Fact). Contains fs f) (sym is)
        ((Contains-filter (λ g. element_eq (first_of g) x) slice f).1 (
          (members f).1 ((Contains-filter (is_of_role r.id) index f).1
              (there, ap (is_of_role r.id) pair ∙ role_of_pair r.inverse r.id x e)),
          ap (λ (g : Fact). element_eq (first_of g) x) pair
              ∙ pair_first r.inverse r.id x e straight,
        )),
  )

  pub last_partners : r.inverse ≡ true → result ≡ filter (λ f. element_eq (last_of f) x) slice
      → (f : Fact)
      → Contains result f ↔ (Contains index f × ((e : Element) × Pair r x e f))
  last_partners turned is f = (
    λ there.
        let both : Contains slice f × (element_eq (last_of f) x ≡ true) =
        (Contains-filter (λ g. element_eq (last_of g) x) slice f).0
        (subst (λ (fs : List Fact). Contains fs f) is there) in
        let inside : Contains index f × (is_of_role r.id f ≡ true) =
        (Contains-filter (is_of_role r.id) index f).0 ((members f).0 both.0) in
        (inside.0, last_pair r.inverse r.id x f turned inside.1 both.1),
    λ (there, (e, pair)).
        subst (λ (fs : List Fact). Contains fs f) (sym is)
        ((Contains-filter (λ g. element_eq (last_of g) x) slice f).1 (
          (members f).1 ((Contains-filter (is_of_role r.id) index f).1
              (there, ap (is_of_role r.id) pair ∙ role_of_pair r.inverse r.id x e)),
          ap (λ (g : Fact). element_eq (last_of g) x) pair ∙ pair_last r.inverse r.id x e turned,
        )),
  )

-- membership by look-ups
pub concept_member : (index : List Fact) (id : ConceptId) (e : Element)
    → Contains index (fact.Concept id e) ↔ IsMember index (basic.Concept id) e
concept_member index id e = (
  λ there. (fact.Concept id e, there, refl),
  λ (g, there, is). subst (Contains index) is there,
)

empty_is : (fs : List Fact) (empty : Bool) → empty ≡ (length fs == 0) → IsTrue empty ↔ (fs ≡ [])
empty_is [] empty is = (λ h. refl, λ h. is ∙ eq-eqb 0 0 refl)
empty_is (f ∷ fs) empty is = (
  λ h. absurd (let none : length (f ∷ fs) ≡ 0 = eqb-true (length (f ∷ fs)) 0 (sym is ∙ h) in
      omega arith),
  λ h. absurd (cc),
)

role_shown : (index partners : List Fact) (r : Role) (x : Element) (empty : Bool)
    → ((f : Fact) → Contains partners f ↔ (Contains index f × ((e : Element) × Pair r x e f)))
    → IsTrue empty ↔ (partners ≡ []) → IsTrue (not empty) ↔ IsMember index (basic.Some r) x
role_shown index partners r x true same none = (
  λ h. absurd (cc),
  λ (g, there, (e, pair)).
      absurd (Contains-none g
      (subst (λ (fs : List Fact). Contains fs g) (none.0 refl)
      ((same g).1 (there, (e, pair))))),
)
role_shown index [] r x false same none = absurd (let h : IsTrue false = none.1 refl in cc)
role_shown index (f ∷ partners) r x false same none = (
  λ h. let found : Contains index f × ((e : Element) × Pair r x e f) =
      (same f).0 (Contains-first f partners) in
      (f, found.0, found.1),
  λ h. refl,
)

pub role_member : (index partners : List Fact) (r : Role) (x : Element) (empty : Bool)
    → ((f : Fact) → Contains partners f ↔ (Contains index f × ((e : Element) × Pair r x e f)))
    → empty ≡ (length partners == 0) → IsTrue (not empty) ↔ IsMember index (basic.Some r) x
role_member index partners r x empty same is =
    role_shown index partners r x empty same (empty_is partners empty is)

abbrev first_or : Element → Option (Element × Element) → Element
first_or d None = d
first_or d (Some p) = p.0

-- the first element of the pair that a fact makes of a role is one
same_first : (r : Role) (f : Fact) (x y e e' : Element) → Pair r x y f → Pair r e e' f → x ≡ e
same_first r f x y e e' one other =
    let left : pair_in r f ≡ Some (x, y) = pair_in-Pair r f x y one in
    let right : pair_in r f ≡ Some (e, e') = pair_in-Pair r f e e' other in
    ap (λ (o : Option (Element × Element)). first_or x o) (sym left ∙ right)

pub partner_there : (index partners : List Fact) (r : Role) (c : ConceptId) (x : Element)
    → ((f : Fact) → Contains partners f ↔ (Contains index f × ((e : Element) × Pair r x e f)))
    → Any (ShowsPartner index r c) partners ↔ HasPartner index r c x
partner_there index partners r c x same = (
  λ (k, f, below, at, (e, e', pair, there)).
      let found : Contains index f × ((y : Element) × Pair r x y f) = (same f).0 (k, below, at) in
      let equal : x ≡ e = same_first r f x found.1.0 e e' found.1.1 pair in (
        e',
        subst (Contains index) (pair ∙ ap (λ (y : Element). role_fact r y e') (sym equal))
            found.0,
        there,
      ),
  λ (e', pair, there).
      let inside : Contains partners (role_fact r x e') =
      (same (role_fact r x e')).1 (pair, (e', refl)) in
      (inside.0, role_fact r x e', inside.1, inside.2, (x, e', refl, there)),
)

-- one of the concept's members is a partner
pub member_there : (index members : List Fact) (r : Role) (c : ConceptId) (x : Element)
    → members ≡ filter (is_of_concept c) index
    → Any (ShowsMember index r c x) members ↔ HasPartner index r c x
member_there index members r c x is = (
  λ (k, f, below, at, (e', same, pair)).
      let found : Contains index f × ((y : Element) × (f ≡ fact.Concept c y)) =
      (concept_members index members c is f).0 (k, below, at) in
      (e', pair, subst (Contains index) same found.0),
  λ (e', pair, there).
      let inside : Contains members (fact.Concept c e') =
      (concept_members index members c is (fact.Concept c e')).1 (there, (e', refl)) in
      (inside.0, fact.Concept c e', inside.1, inside.2, (e', refl, pair)),
)
