-- What is derived without nulls is what some run holds of individuals.
use Rattle.std.specs.Prelude.{◌≡◌, ℕ, List, [], ◌∷◌, ◌++◌, Bool, true, false, not, cond, length}
use Rattle.std.specs.Prelude.{refl, ◌⊎◌}
use Rattle.std.specs.List.{Contains}
use Rattle.std.proofs.Common.{sym, ◌∙◌, ap, subst, inl, inr}
use Rattle.std.proofs.lemmas.List.Elements.{Contains-push, Contains-append_right}
use Rattle.std.proofs.lemmas.List.Elements.{Contains-append_cases}
use Rattle.list_lemmas.proofs.Elements.{Contains-first, Contains-cons_cases, Contains-single}
use Rattle.dl_syntax.proofs.RunLaws.{Run-step}
use Rattle.dl_syntax.specs.declared.facts.Element.{Element}
use Rattle.dl_syntax.specs.declared.facts.Element.TheVariants as element
use Rattle.dl_syntax.specs.declared.names.IndId.{IndId}
use Rattle.dl_syntax.specs.declared.names.RoleId.{RoleId}
use Rattle.dl_syntax.specs.declared.names.ConceptId.{ConceptId}
use Rattle.dl_syntax.specs.declared.facts.Fact.{Fact}
use Rattle.dl_syntax.specs.declared.facts.Fact.TheVariants as fact
use Rattle.dl_syntax.specs.declared.ontology.Role.{Role}
use Rattle.dl_syntax.specs.declared.ontology.Basic.{Basic}
use Rattle.dl_syntax.specs.declared.ontology.Basic.TheVariants as basic
use Rattle.dl_syntax.specs.declared.ontology.Inclusion.{Inclusion}
use Rattle.dl_syntax.specs.declared.ontology.Inclusion.TheVariants as inclusion
use Rattle.dl_syntax.specs.Facts.{In, role_fact, HasNoNull}
use Rattle.dl_syntax.specs.Chase.{Chase, Run, Step, start, step, Makes, basic_fact}
use Rattle.dl_syntax.specs.Encode.{IsReached}
use Rattle.saturate.specs.Derived.{HasPair, given, included, turned, IsInBasic, member, first}
use Rattle.saturate.specs.Derived.{below, qualified, wider, wider_turned, inverse_of, IsDerived}
use Rattle.saturate.specs.Derived.{DerivedIsReached}

-- the fact of a pair, forwards or backwards
abbrev pair_fact : Role → Bool → Element → Element → Fact
pair_fact r inverse a b = cond inverse (fact.Role r.id b a) (fact.Role r.id a b)

-- what a pair's fact is a fact of
same_pair : (r s : Role) (p q : Bool) (a b x y : Element) → r.inverse ≡ p → s.inverse ≡ q
    → pair_fact r p a b ≡ pair_fact s q x y
    → ((r ≡ s) × (a ≡ x) × (b ≡ y)) ⊎ ((r ≡ inverse_of s) × (a ≡ y) × (b ≡ x))
same_pair r s false false a b x y h k e =
    let i : r.id ≡ s.id = cc in
    let role : r ≡ s = ap (λ (n : RoleId). record {
      id = n;
      inverse =
          r.inverse;
    }) i ∙ ap (λ (v : Bool). record { id = s.id; inverse = v }) (h ∙ sym k) in
    let u : a ≡ x = cc in let v : b ≡ y = cc in inl (role, u, v)
same_pair r s true true a b x y h k e =
    let i : r.id ≡ s.id = cc in
    let role : r ≡ s = ap (λ (n : RoleId). record {
      id = n;
      inverse =
          r.inverse;
    }) i ∙ ap (λ (v : Bool). record { id = s.id; inverse = v }) (h ∙ sym k) in
    let u : a ≡ x = cc in let v : b ≡ y = cc in inl (role, u, v)
same_pair r s false true a b x y h k e =
    let i : r.id ≡ s.id = cc in
    let role : r ≡ inverse_of s =
    ap (λ (n : RoleId). record { id = n; inverse = r.inverse }) i ∙ ap (λ (v : Bool).
    record { id = s.id; inverse = v }) (h ∙ sym (ap not k)) in
    let u : a ≡ y = cc in let v : b ≡ x = cc in inr (role, u, v)
same_pair r s true false a b x y h k e =
    let i : r.id ≡ s.id = cc in
    let role : r ≡ inverse_of s =
    ap (λ (n : RoleId). record { id = n; inverse = r.inverse }) i ∙ ap (λ (v : Bool).
    record { id = s.id; inverse = v }) (h ∙ sym (ap not k)) in
    let u : a ≡ y = cc in let v : b ≡ x = cc in inr (role, u, v)

-- what holds of a fact's individuals is derived
pub record IsSound (inclusions : List Inclusion) (facts : List Fact) (f : Fact) : Type 0 where
  pub basics : (b : Basic) (a : IndId) → In b (element.Ind a) f
      → IsInBasic inclusions facts b (element.Ind a)
  pub pairs : (r : Role) (a b : IndId) → f ≡ role_fact r (element.Ind a) (element.Ind b)
      → HasPair inclusions facts r (element.Ind a) (element.Ind b)

not_pair : (c : ConceptId) (e : Element) (r : Role) (q : Bool) (x y : Element)
    → fact.Concept c e ≡ pair_fact r q x y → ⊥
not_pair c e r false x y h = cc
not_pair c e r true x y h = cc

turned_fact_at : (r : Role) (q : Bool) (a b : Element)
    → pair_fact (inverse_of r) (not q) b a ≡ pair_fact r q a b
turned_fact_at r false a b = refl
turned_fact_at r true a b = refl

turned_fact : (r : Role) (a b : Element) → role_fact (inverse_of r) b a ≡ role_fact r a b
turned_fact r a b = turned_fact_at r r.inverse a b

module _ (incs : List Inclusion) (facts : List Fact) where
  sound_given : (f : Fact) → Contains facts f → IsSound incs facts f
  sound_given f m = record {
    basics = at;
    pairs =
        λ r a b h. given r (element.Ind a) (element.Ind b) (subst (Contains facts) h m);
  } where
    at : (b : Basic) (a : IndId) → In b (element.Ind a) f → IsInBasic incs facts b (element.Ind a)
    at (basic.Concept c) a h = member c (element.Ind a) (subst (Contains facts) h m)
    at (basic.Some r) a h =
        first r (element.Ind a) h.0 (given r (element.Ind a) h.0 (subst (Contains facts) h.1 m))

  module _ (f g : Fact) (s : IsSound incs facts f) (p : ℕ) where
    from_concept : (b : Basic) (d : ConceptId) (e : Element)
        → Contains incs (inclusion.Concepts b (basic.Concept d)) → In b e f → g ≡ fact.Concept d e
        → IsSound incs facts g
    from_concept b d e i h k = record {
      basics = at;
      pairs =
          λ r x y l. absurd (not_pair d e r r.inverse (element.Ind x) (element.Ind y) (sym k ∙ l));
    }
      where
        at : (c : Basic) (a : IndId) → In c (element.Ind a) g
            → IsInBasic incs facts c (element.Ind a)
        at (basic.Concept c) a l =
            let u : e ≡ element.Ind a = cc in
            let v : d ≡ c = cc in
            subst (λ (z : ConceptId). IsInBasic incs facts (basic.Concept z) (element.Ind a)) v
            (below b (basic.Concept d) (element.Ind a) i
            (s.basics b a (subst (λ (z : Element). In b z f) u h)))
        at (basic.Some r) a l = absurd (not_pair d e r r.inverse (element.Ind a) l.0 (sym k ∙ l.1))

    from_some : (b : Basic) (o : Role) (e : Element)
        → ((a : IndId) → In b (element.Ind a) f
        → IsInBasic incs facts (basic.Some o) (element.Ind a)) → In b e f
        → g ≡ role_fact o e (element.Null p) → IsSound incs facts g
    from_some b o e into h k = record { basics = at; pairs = pair } where
      at : (c : Basic) (a : IndId) → In c (element.Ind a) g → IsInBasic incs facts c (element.Ind a)
      at (basic.Concept c) a l =
          absurd (not_pair c (element.Ind a) o o.inverse e (element.Null p) (sym l ∙ k))
      at (basic.Some r) a l =
          elim (same_pair r o r.inverse o.inverse (element.Ind a) l.0 e (element.Null p) refl refl
          (sym l.1 ∙ k)) [
            | inl q ↦ subst (λ (z : Role). IsInBasic incs facts (basic.Some z) (element.Ind a))
                (sym q.0) (into a (subst (λ (z : Element). In b z f) (sym q.1) h))
            | inr q ↦ let n : element.Ind a ≡ element.Null p = q.1 in cc
          ]

      pair : (r : Role) (x y : IndId) → g ≡ role_fact r (element.Ind x) (element.Ind y)
          → HasPair incs facts r (element.Ind x) (element.Ind y)
      pair r x y l = elim (same_pair r o r.inverse o.inverse (element.Ind x) (element.Ind y) e
          (element.Null p) refl refl (sym l ∙ k)) [
            | inl q ↦ let n : element.Ind y ≡ element.Null p = q.2 in cc
            | inr q ↦ let n : element.Ind x ≡ element.Null p = q.1 in cc
          ]

    from_role : (r o : Role) (a b : Element) → Contains incs (inclusion.Roles r o)
        → f ≡ role_fact r a b → g ≡ role_fact o a b → IsSound incs facts g
    from_role r o a b i h k = record { basics = at; pairs = pair } where
      at : (c : Basic) (x : IndId) → In c (element.Ind x) g → IsInBasic incs facts c (element.Ind x)
      at (basic.Concept c) x l = absurd (not_pair c (element.Ind x) o o.inverse a b (sym l ∙ k))
      at (basic.Some t) x l =
          elim (same_pair t o t.inverse o.inverse (element.Ind x) l.0 a b refl refl (sym l.1 ∙ k)) [
            | inl q ↦ subst (λ (z : Role). IsInBasic incs facts (basic.Some z) (element.Ind x))
                (sym q.0)
                (wider r o (element.Ind x) i
                (s.basics (basic.Some r) x
                (b, h ∙ ap (λ (z : Element). role_fact r z b) (sym q.1))))
            | inr q ↦ subst (λ (z : Role). IsInBasic incs facts (basic.Some z) (element.Ind x))
                (sym q.0)
                (wider_turned r o (element.Ind x) i (s.basics (basic.Some (inverse_of r)) x (
                  a,
                  h ∙ (sym (turned_fact r a b) ∙ ap (λ (z : Element).
                      role_fact (inverse_of r) z a) (sym q.1)),
                )))
          ]

      pair : (t : Role) (x y : IndId) → g ≡ role_fact t (element.Ind x) (element.Ind y)
          → HasPair incs facts t (element.Ind x) (element.Ind y)
      pair t x y l = elim (same_pair t o t.inverse o.inverse (element.Ind x) (element.Ind y) a b
          refl refl (sym l ∙ k)) [
            | inl q ↦ subst (λ (z : Role). HasPair incs facts z (element.Ind x) (element.Ind y))
                (sym q.0)
                (included r o (element.Ind x) (element.Ind y) i
                (s.pairs r x y (h ∙ (ap (λ (z : Element).
                role_fact r z b) (sym q.1) ∙ ap (λ (z : Element).
                role_fact r (element.Ind x) z) (sym q.2)))))
            | inr q ↦ subst (λ (z : Role). HasPair incs facts z (element.Ind x) (element.Ind y))
                (sym q.0)
                (turned o (element.Ind y) (element.Ind x)
                (included r o (element.Ind y) (element.Ind x) i
                (s.pairs r y x (h ∙ (ap (λ (z : Element).
                role_fact r z b) (sym q.2) ∙ ap (λ (z : Element).
                role_fact r (element.Ind y) z) (sym q.1))))))
          ]

    from_null : (c : ConceptId) → g ≡ fact.Concept c (element.Null p) → IsSound incs facts g
    from_null c k = record {
      basics = at;
      pairs =
          λ r x y l. absurd (not_pair c (element.Null p) r r.inverse (element.Ind x) (element.Ind y)
          (sym k ∙ l));
    } where
      at : (d : Basic) (a : IndId) → In d (element.Ind a) g → IsInBasic incs facts d (element.Ind a)
      at (basic.Concept d) a l = let e : fact.Concept c (element.Null p)
          ≡ fact.Concept d (element.Ind a) = sym k ∙ l in cc
      at (basic.Some r) a l =
          absurd (not_pair c (element.Null p) r r.inverse (element.Ind a) l.0 (sym k ∙ l.1))

  -- each fact that an inclusion makes from a sound fact is sound
  sound_made : (i : Inclusion) (f : Fact) (p : ℕ) (made : List Fact) → Contains incs i
      → IsSound incs facts f → Makes i f p made → (g : Fact) → Contains made g
      → IsSound incs facts g
  sound_made (inclusion.Concepts b (basic.Concept d)) f p made m s (e, is, whole) g there =
      from_concept f g s p b d e m is
      (sym (Contains-single (fact.Concept d e) g
      (subst (λ (xs : List Fact). Contains xs g) whole there)))
  sound_made (inclusion.Concepts b (basic.Some o)) f p made m s (e, is, whole) g there =
      from_some f g s p b o e (λ a h. below b (basic.Some o) (element.Ind a) m (s.basics b a h)) is
      (sym (Contains-single (role_fact o e (element.Null p)) g
      (subst (λ (xs : List Fact). Contains xs g) whole there)))
  sound_made (inclusion.Roles r o) f p made m s (a, b, is, whole) g there =
      from_role f g s p r o a b m is
      (sym (Contains-single (role_fact o a b) g
      (subst (λ (xs : List Fact). Contains xs g) whole there)))
  sound_made (inclusion.Qualified b r c) f p made m s (e, is, whole) g there =
      elim (Contains-cons_cases (role_fact r e (element.Null p))
      (fact.Concept c (element.Null p) ∷ []) g
      (subst (λ (xs : List Fact). Contains xs g) whole there)) [
        | inl k ↦ from_some f g s p b r e (λ a h.
            qualified b r c (element.Ind a) m (s.basics b a h)) is (sym k)
        | inr k ↦ from_null f g s p c (sym (Contains-single (fact.Concept c (element.Null p)) g k))
      ]

  -- what a run holds of individuals is derived
  chase_sound : (steps : List Step) (run : List Fact) → Chase incs facts steps run → (f : Fact)
      → Contains run f → IsSound incs facts f
  chase_sound steps run start f m = sound_given f m
  chase_sound steps run (step {steps = taken} {run =
      before} i e made is_run listed earlier makes) f m =
      elim (Contains-append_cases before made f m) [
        | inl k ↦ chase_sound taken before is_run f k
        | inr k ↦ sound_made i e (length before) made listed
            (chase_sound taken before is_run e earlier)
            makes f k
      ]

-- some run holds a fact that puts the element into the basic concept
abbrev RunPutsInto : List Inclusion → List Fact → Basic → Element → Type 0
RunPutsInto incs facts b a = (run : List Fact) × Run incs facts run × (f : Fact) × Contains run f
    × In b a f

made_into : (c : Basic) (a : Element) (p : ℕ) → In c a (basic_fact c a p)
made_into (basic.Concept c) a p = refl
made_into (basic.Some r) a p = (element.Null p, refl)

last_of : (run : List Fact) (g : Fact) → Contains (run ++ g ∷ []) g
last_of run g = Contains-push run g

-- what is derived is held by some run
pair_complete : (incs : List Inclusion) (facts : List Fact) (r : Role) (a b : Element)
    → HasPair incs facts r a b → IsReached incs facts (role_fact r a b)
pair_complete incs facts _ _ _ (given r a b m) = (facts, ([], start), m)
pair_complete incs facts _ _ _ (included r s a b i h) =
    let k = pair_complete incs facts r a b h in
    let g : Fact = role_fact s a b in (
      k.0 ++ g ∷ [],
      Run-step incs facts k.0 (g ∷ []) (inclusion.Roles r s) (role_fact r a b) k.1 i
          k.2 (a, b, refl, refl),
      last_of k.0 g,
    )
pair_complete incs facts _ _ _ (turned r a b h) =
    let k = pair_complete incs facts r a b h in
    (k.0, k.1, subst (Contains k.0) (sym (turned_fact r a b)) k.2)

basic_complete : (incs : List Inclusion) (facts : List Fact) (b : Basic) (a : Element)
    → IsInBasic incs facts b a → RunPutsInto incs facts b a
basic_complete incs facts _ _ (member c a m) = (facts, ([], start), fact.Concept c a, m, refl)
basic_complete incs facts _ _ (first r a x h) =
    let k = pair_complete incs facts r a x h in (k.0, k.1, role_fact r a x, k.2, (x, refl))
basic_complete incs facts _ _ (below b c a i h) =
    let k = basic_complete incs facts b a h in
    let g : Fact = basic_fact c a (length k.0) in (
      k.0 ++ g ∷ [],
      Run-step incs facts k.0 (g ∷ []) (inclusion.Concepts b c) k.2 k.1 i k.3
          (a, k.4, refl),
      g,
      last_of k.0 g,
      made_into c a (length k.0),
    )
basic_complete incs facts _ _ (qualified b r c a i h) =
    let k = basic_complete incs facts b a h in
    let g : Fact = role_fact r a (element.Null (length k.0)) in
    let more : List Fact = g ∷ fact.Concept c (element.Null (length k.0)) ∷ [] in (
      k.0 ++ more,
      Run-step incs facts k.0 more (inclusion.Qualified b r c) k.2 k.1 i k.3 (a, k.4, refl),
      g,
      Contains-append_right k.0 more g
          (Contains-first g (fact.Concept c (element.Null (length k.0)) ∷ [])),
      (element.Null (length k.0), refl),
    )
basic_complete incs facts _ _ (wider r s a i h) =
    let k = basic_complete incs facts (basic.Some r) a h in
    let x : Element = k.4.0 in
    let g : Fact = role_fact s a x in (
      k.0 ++ g ∷ [],
      Run-step incs facts k.0 (g ∷ []) (inclusion.Roles r s) k.2 k.1 i k.3
          (a, x, k.4.1, refl),
      g,
      last_of k.0 g,
      (x, refl),
    )
basic_complete incs facts _ _ (wider_turned r s a i h) =
    let k = basic_complete incs facts (basic.Some (inverse_of r)) a h in
    let x : Element = k.4.0 in
    let g : Fact = role_fact s x a in (
      k.0 ++ g ∷ [],
      Run-step incs facts k.0 (g ∷ []) (inclusion.Roles r s) k.2 k.1 i k.3
          (x, a, k.4.1 ∙ turned_fact r x a, refl),
      g,
      last_of k.0 g,
      (x, sym (turned_fact s x a)),
    )

reached_sound : (incs : List Inclusion) (facts : List Fact) (f : Fact) → HasNoNull f
    → IsReached incs facts f → IsDerived incs facts f
reached_sound incs facts (fact.Concept c (element.Ind a)) plain (run, (steps, chased), there) =
    (chase_sound incs facts steps run chased (fact.Concept c (element.Ind a)) there).basics
    (basic.Concept c) a refl
reached_sound incs facts (fact.Concept c (element.Null n)) plain h = absurd plain
reached_sound incs facts (fact.Role p (element.Ind a) (element.Ind b)) plain
    (run, (steps, chased), there) =
    (chase_sound incs facts steps run chased (fact.Role p (element.Ind a) (element.Ind b))
    there).pairs (record { id = p; inverse = false }) a b refl
reached_sound incs facts (fact.Role p (element.Ind a) (element.Null n)) plain h = absurd plain.1
reached_sound incs facts (fact.Role p (element.Null n) y) plain h = absurd plain.0

derived_held : (incs : List Inclusion) (facts : List Fact) (f : Fact) → IsDerived incs facts f
    → IsReached incs facts f
derived_held incs facts (fact.Concept c a) h =
    let k = basic_complete incs facts (basic.Concept c) a h in
    (k.0, k.1, subst (Contains k.0) k.4 k.3)
derived_held incs facts (fact.Role p a b) h =
    pair_complete incs facts (record { id = p; inverse = false }) a b h

pub derived_is_reached : DerivedIsReached
derived_is_reached incs facts f plain =
    (reached_sound incs facts f plain, derived_held incs facts f)
