-- What is derived is what single facts imply.
use Rattle.std.specs.Prelude.{◌≡◌, ◌↔◌, List, [], Bool, true, false, not, cond, refl, ◌⊎◌}
use Rattle.std.specs.List.{All, Contains}
use Rattle.std.proofs.Common.{sym, ap, subst, inl, inr, arith}
use Rattle.std.proofs.lemmas.List.Elements.{All-contains}
use Rattle.list_lemmas.proofs.Elements.{Contains-none, Contains-single}
use Rattle.dl_syntax.specs.declared.facts.Element.{Element}
use Rattle.dl_syntax.specs.declared.names.RoleId.{RoleId}
use Rattle.dl_syntax.specs.declared.names.ConceptId.{ConceptId}
use Rattle.dl_syntax.specs.declared.facts.Fact.{Fact}
use Rattle.dl_syntax.specs.declared.facts.Fact.TheVariants as fact
use Rattle.dl_syntax.specs.declared.ontology.Role.{Role}
use Rattle.dl_syntax.specs.declared.ontology.Basic.{Basic}
use Rattle.dl_syntax.specs.declared.ontology.Basic.TheVariants as basic
use Rattle.dl_syntax.specs.declared.ontology.Inclusion.{Inclusion}
use Rattle.dl_syntax.specs.declared.ontology.Inclusion.TheVariants as inclusion
use Rattle.dl_syntax.specs.Facts.{In, role_fact, HasNoNull}
use Rattle.dl_syntax.specs.Saturation.{IsSaturation}
use Rattle.saturate.specs.declared.graph.Arrow.{Arrow}
use Rattle.saturate.specs.declared.graph.Scope.TheVariants as scope
use Rattle.saturate.specs.Derived.{HasPair, given, included, turned, IsInBasic, member, first}
use Rattle.saturate.specs.Derived.{below, qualified, wider, wider_turned, inverse_of, IsDerived}
use Rattle.saturate.specs.Lists.{Absorbs}
use Rattle.saturate.specs.Above.{arrow, arrows_of, all_arrows, Along, IsAboveRole, IsAbove, forward}
use Rattle.saturate.specs.Above.{backward}
use Rattle.saturate.specs.Implied.{IsMemberAbove, IsPairAbove, Implies, IsImplied}
use Rattle.saturate.proofs.DerivedRuns.{derived_is_reached}
use Rattle.saturate.proofs.Arrows.{along_walk, one_more, here, along_arrow, arrow_from, forth, back}
use Rattle.saturate.proofs.Arrows.{role_cases, twice, pair_arrow, raised, turned_above}

-- the fact of a pair, forwards or backwards
abbrev pub directed : Role → Bool → Element → Element → Fact
directed r inverse a b = cond inverse (fact.Role r.id b a) (fact.Role r.id a b)

reversed_at : (r : Role) (v : Bool) (a b : Element)
    → directed (inverse_of r) (not v) b a ≡ directed r v a b
reversed_at r false a b = refl
reversed_at r true a b = refl

reversed : (r : Role) (a b : Element) → role_fact (inverse_of r) b a ≡ role_fact r a b
reversed r a b = reversed_at r r.inverse a b

pub is_forward : (r : Role) → r.inverse ≡ false → forward r.id.0 ≡ r
is_forward r is = ap (λ (v : Bool). let it : Role = record { id = r.id; inverse = v } in
    it) (sym is)

pub is_backward : (r : Role) → r.inverse ≡ true → backward r.id.0 ≡ r
is_backward r is = ap (λ (v : Bool). let it : Role = record { id = r.id; inverse = v } in
    it) (sym is)

module _ (incs : List Inclusion) (facts : List Fact) where
  -- each arrow is one of the rules
  element_step : (a : Element) (b c : Basic) → Along (all_arrows scope.Elements incs) b c
      → IsInBasic incs facts b a → IsInBasic incs facts c a
  element_step a b c taken before = let k = arrow_from scope.Elements incs b c taken in
      by k.0 k.1 k.2 where
        roles : (r s : Role) → Contains incs (inclusion.Roles r s)
            → ((basic.Some r ≡ b) × (basic.Some s ≡ c))
            ⊎ ((basic.Some (inverse_of r) ≡ b) × (basic.Some (inverse_of s) ≡ c))
            → IsInBasic incs facts c a
        roles r s listed (inl (from, to)) =
            subst (λ (z : Basic). IsInBasic incs facts z a) to
            (wider r s a listed (subst (λ (z : Basic). IsInBasic incs facts z a) (sym from) before))
        roles r s listed (inr (from, to)) =
            subst (λ (z : Basic). IsInBasic incs facts z a) to
            (wider_turned r s a listed (subst (λ (z : Basic).
            IsInBasic incs facts z a) (sym from) before))

        by : (i : Inclusion) → Contains incs i → Contains (arrows_of scope.Elements i) (arrow b c)
            → IsInBasic incs facts c a
        by (inclusion.Concepts b' c') listed of =
            let same = Contains-single (arrow b' c') (arrow b c) of in
            let from : b' ≡ b = ap (λ (x : Arrow). x.from) same in
            let to : c' ≡ c = ap (λ (x : Arrow). x.to) same in
            subst (λ (z : Basic). IsInBasic incs facts z a) to
            (below b' c' a listed (subst (λ (z : Basic).
            IsInBasic incs facts z a) (sym from) before))
        by (inclusion.Roles r s) listed of = roles r s listed (role_cases r s b c of)
        by (inclusion.Qualified b' r d) listed of =
            let same = Contains-single (arrow b' (basic.Some r)) (arrow b c) of in
            let from : b' ≡ b = ap (λ (x : Arrow). x.from) same in
            let to : basic.Some r ≡ c = ap (λ (x : Arrow). x.to) same in
            subst (λ (z : Basic). IsInBasic incs facts z a) to
            (qualified b' r d a listed (subst (λ (z : Basic).
            IsInBasic incs facts z a) (sym from) before))

  -- what is in a basic concept is in each one above
  lifted : (a : Element) (b c : Basic) → IsAbove incs b c → IsInBasic incs facts b a
      → IsInBasic incs facts c a
  lifted a b c (n, walk) before =
      along_walk (Along (all_arrows scope.Elements incs)) (λ (z : Basic).
      IsInBasic incs facts z a) (element_step a) b before n c walk

  abbrev Paired : Element → Element → Basic → Type 0
  Paired x y (basic.Concept c) = Unit {0}
  Paired x y (basic.Some r) = HasPair incs facts r x y

  pair_step : (x y : Element) (b c : Basic) → Along (all_arrows scope.Pairs incs) b c → Paired x y b
      → Paired x y c
  pair_step x y b c taken before = let k = pair_arrow incs b c taken in
      by k.0 k.1 k.2 (role_cases k.0 k.1 b c k.3) where
        by : (r s : Role) → Contains incs (inclusion.Roles r s)
            → ((basic.Some r ≡ b) × (basic.Some s ≡ c))
            ⊎ ((basic.Some (inverse_of r) ≡ b) × (basic.Some (inverse_of s) ≡ c)) → Paired x y c
        by r s listed (inl (from, to)) =
            let was : HasPair incs facts r x y = subst (Paired x y) (sym from) before in
            subst (Paired x y) to (included r s x y listed was)
        by r s listed (inr (from, to)) =
            let was : HasPair incs facts (inverse_of r) x y =
            subst (Paired x y) (sym from) before in
            let there : HasPair incs facts r y x =
            subst (λ (z : Role). HasPair incs facts z y x) (twice r)
            (turned (inverse_of r) x y was) in
            subst (Paired x y) to (turned s y x (included r s y x listed there))

  -- each pair of a basic role is one of each role above
  paired : (x y : Element) (r s : Role) → IsAboveRole incs r s → HasPair incs facts r x y
      → HasPair incs facts s x y
  paired x y r s (n, walk) before =
      along_walk (Along (all_arrows scope.Pairs incs)) (Paired x y) (pair_step x y) (basic.Some r)
      before n (basic.Some s) walk

  -- what a fact of the list implies is derived
  derived_pair : (s : Role) (v : Bool) → s.inverse ≡ v → (a b : Element) → HasPair incs facts s a b
      → IsDerived incs facts (directed s v a b)
  derived_pair s false is a b h =
      subst (λ (z : Role). HasPair incs facts z a b) (sym (is_forward s is)) h
  derived_pair s true is a b h =
      let same : inverse_of s ≡ forward s.id.0 =
      ap (λ (v : Bool). let it : Role = record { id = s.id; inverse = not v } in it) is in
      subst (λ (z : Role). HasPair incs facts z b a) same (turned s a b h)

  pub member_derived : (b : Basic) (a : Element) (g : Fact) → IsInBasic incs facts b a
      → IsMemberAbove incs b a g → IsDerived incs facts g
  member_derived b a g before (c, above, is) =
      subst (IsDerived incs facts) (sym is) (lifted a b (basic.Concept c) above before)

  pair_derived : (r : Role) (a b : Element) (g : Fact) → HasPair incs facts r a b
      → IsPairAbove incs r a b g → IsDerived incs facts g
  pair_derived r a b g before (s, above, is) =
      subst (IsDerived incs facts) (sym is)
      (derived_pair s s.inverse refl a b (paired a b r s above before))

  implied_derived : (f g : Fact) → Contains facts f → Implies incs f g → IsDerived incs facts g
  implied_derived (fact.Concept c a) g there implies =
      member_derived (basic.Concept c) a g (member c a there) implies
  implied_derived (fact.Role p a b) g there (inl pair) =
      pair_derived (forward p.0) a b g (given (forward p.0) a b there) pair
  implied_derived (fact.Role p a b) g there (inr (inl here')) =
      member_derived (basic.Some (forward p.0)) a g
      (first (forward p.0) a b (given (forward p.0) a b there)) here'
  implied_derived (fact.Role p a b) g there (inr (inr here')) =
      member_derived (basic.Some (backward p.0)) b g
      (first (backward p.0) b a (given (backward p.0) b a there)) here'

  -- a pair comes from a fact
  pub pair_above : (r : Role) (a b : Element) → HasPair incs facts r a b
      → (s : Role) × Contains facts (role_fact s a b) × IsAboveRole incs s r
  pair_above _ _ _ (given r a b there) =
      (r, there, here (Along (all_arrows scope.Pairs incs)) (basic.Some r))
  pair_above _ _ _ (included r s a b listed h) =
      let k = pair_above r a b h in (
        k.0,
        k.1,
        one_more (Along (all_arrows scope.Pairs incs)) (basic.Some k.0) (basic.Some r)
            (basic.Some s) k.2 (along_arrow scope.Pairs incs (inclusion.Roles r s) (basic.Some r)
            (basic.Some s) listed (forth r s)),
      )
  pair_above _ _ _ (turned r a b h) =
      let k = pair_above r a b h in (
        inverse_of k.0,
        subst (Contains facts) (sym (reversed k.0 a b)) k.1,
        turned_above incs k.0 r
            k.2,
      )

  abbrev Origin : Basic → Element → Type 0
  Origin b a = (c : Basic) × (f : Fact) × Contains facts f × In c a f × IsAbove incs c b

  -- so does what is in a basic concept
  origin : (b : Basic) (a : Element) → IsInBasic incs facts b a → Origin b a
  origin _ _ (member c a there) = (
    basic.Concept c,
    fact.Concept c a,
    there,
    refl,
    here (Along (all_arrows scope.Elements incs))
        (basic.Concept c),
  )
  origin _ _ (first r a b h) = let k = pair_above r a b h in
      (basic.Some k.0, role_fact k.0 a b, k.1, (b, refl), raised incs k.0 r k.2)
  origin _ _ (below b c a listed h) =
      let k = origin b a h in (
        k.0,
        k.1,
        k.2,
        k.3,
        one_more (Along (all_arrows scope.Elements incs)) k.0 b c k.4
            (along_arrow scope.Elements incs (inclusion.Concepts b c) b c listed
            (0, omega arith, refl)),
      )
  origin _ _ (qualified b r c a listed h) =
      let k = origin b a h in (
        k.0,
        k.1,
        k.2,
        k.3,
        one_more (Along (all_arrows scope.Elements incs)) k.0 b (basic.Some r)
            k.4 (along_arrow scope.Elements incs (inclusion.Qualified b r c) b (basic.Some r) listed
            (0, omega arith, refl)),
      )
  origin _ _ (wider r s a listed h) =
      let k = origin (basic.Some r) a h in (
        k.0,
        k.1,
        k.2,
        k.3,
        one_more (Along (all_arrows scope.Elements incs)) k.0 (basic.Some r)
            (basic.Some s) k.4 (along_arrow scope.Elements incs (inclusion.Roles r s) (basic.Some r)
            (basic.Some s) listed (forth r s)),
      )
  origin _ _ (wider_turned r s a listed h) =
      let k = origin (basic.Some (inverse_of r)) a h in (
        k.0,
        k.1,
        k.2,
        k.3,
        one_more (Along (all_arrows scope.Elements incs)) k.0
            (basic.Some (inverse_of r)) (basic.Some (inverse_of s)) k.4
            (along_arrow scope.Elements incs (inclusion.Roles r s) (basic.Some (inverse_of r))
            (basic.Some (inverse_of s)) listed (back r s)),
      )

  concept_implied_role : (c : ConceptId) (a x : Element) (r : Role) (v : Bool) → r.inverse ≡ v
      → Contains facts (directed r v a x) → IsAbove incs (basic.Some r) (basic.Concept c)
      → IsImplied incs facts (fact.Concept c a)
  concept_implied_role c a x r false is there above = (
    fact.Role r.id a x,
    there,
    inr
        (inl (
          c,
          subst (λ (z : Role). IsAbove incs (basic.Some z) (basic.Concept c))
              (sym (is_forward r is)) above,
          refl,
        )),
  )
  concept_implied_role c a x r true is there above = (
    fact.Role r.id x a,
    there,
    inr
        (inr (
          c,
          subst (λ (z : Role). IsAbove incs (basic.Some z) (basic.Concept c))
              (sym (is_backward r is)) above,
          refl,
        )),
  )

  concept_implied : (c : ConceptId) (a : Element) → Origin (basic.Concept c) a
      → IsImplied incs facts (fact.Concept c a)
  concept_implied c a (basic.Concept d, f, there, is, above) =
      (fact.Concept d a, subst (Contains facts) is there, (c, above, refl))
  concept_implied c a (basic.Some r, f, there, (x, is), above) =
      concept_implied_role c a x r r.inverse refl (subst (Contains facts) is there) above

  role_implied : (p : RoleId) (a b : Element) (s : Role) (v : Bool) → s.inverse ≡ v
      → Contains facts (directed s v a b) → IsAboveRole incs s (forward p.0)
      → IsImplied incs facts (fact.Role p a b)
  role_implied p a b s false is there above = (
    fact.Role s.id a b,
    there,
    inl (
      forward p.0,
      subst (λ (z : Role).
          IsAboveRole incs z (forward p.0)) (sym (is_forward s is)) above,
      refl,
    ),
  )
  role_implied p a b s true is there above =
      let same : inverse_of s ≡ forward s.id.0 =
      ap (λ (v : Bool). let it : Role = record { id = s.id; inverse = not v } in it) is in (
        fact.Role s.id b a,
        there,
        inl (
          backward p.0,
          subst (λ (z : Role).
              IsAboveRole incs z (backward p.0)) same (turned_above incs s (forward p.0) above),
          refl,
        ),
      )

  derived_implied : (g : Fact) → IsDerived incs facts g → IsImplied incs facts g
  derived_implied (fact.Concept c a) h = concept_implied c a (origin (basic.Concept c) a h)
  derived_implied (fact.Role p a b) h = let k = pair_above (forward p.0) a b h in
      role_implied p a b k.0 k.0.inverse refl k.1 k.2

  pub derived_is_implied : (g : Fact) → IsDerived incs facts g ↔ IsImplied incs facts g
  derived_is_implied g = (derived_implied g, λ k. implied_derived k.0 g k.1 k.2)

-- what a fact without nulls implies has none
plain_pair : (s : Role) (v : Bool) (a b : Element) → HasNoNull (fact.Role s.id a b)
    → HasNoNull (directed s v a b)
plain_pair s false a b (x, y) = (x, y)
plain_pair s true a b (x, y) = (y, x)

plain_implied : (incs : List Inclusion) (f g : Fact) → HasNoNull f → Implies incs f g → HasNoNull g
plain_implied incs (fact.Concept c a) g plain (d, above, is) = subst HasNoNull (sym is) plain
plain_implied incs (fact.Role p a b) g (x, y) (inl (s, above, is)) =
    subst HasNoNull (sym is) (plain_pair s s.inverse a b (x, y))
plain_implied incs (fact.Role p a b) g (x, y) (inr (inl (c, above, is))) =
    subst HasNoNull (sym is) x
plain_implied incs (fact.Role p a b) g (x, y) (inr (inr (c, above, is))) =
    subst HasNoNull (sym is) y

pub implied_plain : (incs : List Inclusion) (facts : List Fact) → All HasNoNull facts → (g : Fact)
    → IsImplied incs facts g → HasNoNull g
implied_plain incs facts plain g (f, there, implies) =
    plain_implied incs f g (All-contains HasNoNull facts f plain there) implies

module _ (incs : List Inclusion) (facts keys : List Fact) (plain : All HasNoNull facts)
    (absorbed : Absorbs (IsImplied incs facts) [] keys) where
  from_sources : (g : Fact) → Contains [] g ⊎ IsImplied incs facts g → IsImplied incs facts g
  from_sources g (inl none) = absurd (Contains-none g none)
  from_sources g (inr implied) = implied

  key_plain : (g : Fact) → Contains keys g → HasNoNull g
  key_plain g there = implied_plain incs facts plain g (from_sources g (absorbed.sound g there))

  -- what all facts imply is what some run holds
  pub implied_is_saturation : IsSaturation incs facts keys
  implied_is_saturation = record {
    sound = λ g there. (
      key_plain g there,
      (derived_is_reached incs facts g (key_plain g there)).1
          ((derived_is_implied incs facts g).1 (from_sources g (absorbed.sound g there))),
    );
    complete = λ g no_null reached.
        absorbed.complete g ((derived_is_implied incs facts g).0
        ((derived_is_reached incs facts g no_null).0 reached));
  }
