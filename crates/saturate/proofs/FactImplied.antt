-- What is added for one fact, and what all of it makes.
use Rattle.std.proofs.Common.{◌≡◌, ◌<◌, ◌≤◌, List, [], ◌∷◌, length, sym, ◌∙◌, ap, subst, arith}
use Rattle.std.proofs.Common.{rules, inl, inr, Vec, Global}
use Rattle.std.specs.Prelude.{◌⊎◌, ◌↔◌}
use Rattle.std.specs.List.{Contains, IsDistinct}
use Rattle.std.proofs.lemmas.Map.Made.{AllPairs-from_IsDistinct}
use Rattle.indexmap.specs.IndexSet.{insert_key}
use Rattle.dl_syntax.specs.Exact.{IsExact}
use Rattle.dl_syntax.specs.Snapshots.{IsSnapshot}
use Rattle.dl_syntax.specs.contracts.facts.FactPartialEq.TheImpl as fact_eq
use Rattle.dl_syntax.specs.contracts.ontology.BasicPartialEq.TheImpl as basic_eq
use Rattle.dl_syntax.specs.declared.names.ConceptId.{ConceptId}
use Rattle.dl_syntax.specs.declared.names.RoleId.{RoleId}
use Rattle.dl_syntax.specs.declared.facts.Element.{Element}
use Rattle.dl_syntax.specs.declared.facts.Fact.{Fact}
use Rattle.dl_syntax.specs.declared.facts.Fact.TheVariants as fact
use Rattle.dl_syntax.specs.declared.ontology.Role.{Role}
use Rattle.dl_syntax.specs.declared.ontology.Basic.TheVariants as basic
use Rattle.dl_syntax.specs.declared.ontology.Inclusion.{Inclusion}
use Rattle.dl_syntax.specs.Facts.{role_fact, HasNoNull}
use Rattle.list_lemmas.proofs.Elements.{All-from_contains, Contains-none, Contains-first}
use Rattle.list_lemmas.proofs.Elements.{Contains-later, Contains-cons_cases}
use Rattle.dl_syntax.specs.Saturation.{IsSaturation}
use Rattle.saturate.specs.declared.graph.Scope.{Scope}
use Rattle.saturate.specs.declared.graph.Scope.TheVariants as scope
use Rattle.saturate.specs.declared.graph.Place.TheVariants as place
use Rattle.saturate.specs.declared.graph.Arrow.{Arrow}
use Rattle.worklist.specs.Lists.{listed}
use Rattle.saturate.specs.Lists.{Absorbs}
use Rattle.saturate.specs.Above.{all_arrows, Along, forward, source_of, IsConceptTable, IsRoleTable}
use Rattle.saturate.specs.declared.sight.Sight.{Sight}
use Rattle.saturate.specs.Sight.{Sees, IsSeenSaturation}
use Rattle.saturate.specs.Implied.{IsMembership, IsPairing, Implies, IsImplied}
use Rattle.saturate.proofs.Absorbing.{Absorbs-none, Absorbs-same, Absorbs-insert, Absorbs-seen_same}
use Rattle.saturate.proofs.Absorbing.{Absorbs-seen_both, Absorbs-empty, with_one, with_image}
use Rattle.saturate.proofs.Arrows.{here, length-all_arrows}
use Rattle.saturate.proofs.Implications.{implied_plain}

-- `==` of facts and of basic concepts is exact
pub fact_exact : IsExact ((fact_eq.ghosts).eq)
fact_exact a b = search rules

pub basic_exact : IsExact ((basic_eq.ghosts).eq)
basic_exact a b = search rules

pub few : (kind : Scope) (incs xs : List Inclusion) (arrows : List Arrow)
    → arrows ≡ all_arrows kind xs → xs ≡ incs → length incs ≤ 16384 → length arrows < 2147483648
few kind incs xs arrows is same small =
    omega (arith, length-all_arrows kind xs, ap length is, ap length same)

-- one insertion, of what is looked at
pub one_added : (S : Fact → Type 0) (f : Fact) (old new : List Fact) → S f
    → new ≡ insert_key ((fact_eq.ghosts).eq) old f → Absorbs (λ x. (f ≡ x) × S x) old new
one_added S f old new seen inserted =
    Absorbs-same (λ x. f ≡ x) (λ x. (f ≡ x)
    × S x) old new (λ x same. (same, subst S same seen)) (λ x h.
    h.0) (Absorbs-insert ((fact_eq.ghosts).eq) fact_exact old new f inserted)

pub none_added : (S : Fact → Type 0) (f : Fact) (old : List Fact) → (S f → ⊥)
    → Absorbs (λ x. (f ≡ x) × S x) old old
none_added S f old unseen = Absorbs-none (λ x. (f ≡ x)
    × S x) old (λ x h. unseen (subst S (sym h.0) h.1))

-- what is looked at of it
module _ (incs : List Inclusion) (S : Fact → Type 0) where
  pub concept_added : (members : List (Vec ConceptId Global))
      → IsConceptTable incs place.Member members
      → (c : ConceptId) (a : Element) (old mid new : List Fact)
      → Absorbs (λ x. (fact.Concept c a ≡ x) × S x) old mid
      → Absorbs (λ x. IsMembership (listed members c.0) a x × S x) mid new
      → Absorbs (λ x. Implies incs (fact.Concept c a) x × S x) old new
  concept_added members table c a old mid new own absorbed =
      Absorbs-seen_same S (λ x. (fact.Concept c a ≡ x)
      ⊎ IsMembership (listed members c.0) a x) (Implies incs (fact.Concept c a)) old new to from
      (Absorbs-seen_both S (λ x. fact.Concept c a
      ≡ x) (IsMembership (listed members c.0) a) old mid new own absorbed)
    where
      to : (x : Fact) → (fact.Concept c a ≡ x) ⊎ IsMembership (listed members c.0) a x
          → Implies incs (fact.Concept c a) x
      to x (inl same) =
          (c, here (Along (all_arrows scope.Elements incs)) (basic.Concept c), sym same)
      to x (inr (d, there, is)) = (d, table.sound c.0 d there, is)

      by : (x : Fact) (d : ConceptId) → x ≡ fact.Concept d a
          → (source_of place.Member c.0 ≡ basic.Concept d) ⊎ Contains (listed members c.0) d
          → (fact.Concept c a ≡ x) ⊎ IsMembership (listed members c.0) a x
      by x d is (inl itself) = let same : c ≡ d = cc in
          inl (ap (λ (z : ConceptId). fact.Concept z a) same ∙ sym is)
      by x d is (inr there) = inr (d, there, is)

      from : (x : Fact) → Implies incs (fact.Concept c a) x
          → (fact.Concept c a ≡ x) ⊎ IsMembership (listed members c.0) a x
      from x (d, above, is) = by x d is (table.complete c.0 d above)

  pub role_added :
      (firsts seconds : List (Vec ConceptId Global)) (roles : List (Vec Role Global))
      → IsConceptTable incs place.First firsts → IsConceptTable incs place.Second seconds
      → IsRoleTable incs roles
      → (p : RoleId) (a b : Element) (old one two three new : List Fact)
      → Absorbs (λ x. (fact.Role p a b ≡ x) × S x) old one
      → Absorbs (λ x. IsPairing (listed roles p.0) a b x × S x) one two
      → Absorbs (λ x. IsMembership (listed firsts p.0) a x × S x) two three
      → Absorbs (λ x. IsMembership (listed seconds p.0) b x × S x) three new
      → Absorbs (λ x. Implies incs (fact.Role p a b) x × S x) old new
  role_added firsts seconds roles first_table second_table role_table p a b old one two three new
      own paired firsts_in seconds_in =
      Absorbs-seen_same S Sources (Implies incs (fact.Role p a b)) old new to from
      (Absorbs-seen_both S (λ x. ((fact.Role p a b ≡ x) ⊎ IsPairing (listed roles p.0) a b x)
      ⊎ IsMembership (listed firsts p.0) a x) (IsMembership (listed seconds p.0) b) old three
      new
      (Absorbs-seen_both S (λ x. (fact.Role p a b ≡ x)
      ⊎ IsPairing (listed roles p.0) a b x) (IsMembership (listed firsts p.0) a) old two three
      (Absorbs-seen_both S (λ x. fact.Role p a b
      ≡ x) (IsPairing (listed roles p.0) a b) old one two own paired) firsts_in) seconds_in)
    where
      Sources : Fact → Type 0
      Sources x = (((fact.Role p a b ≡ x) ⊎ IsPairing (listed roles p.0) a b x)
          ⊎ IsMembership (listed firsts p.0) a x) ⊎ IsMembership (listed seconds p.0) b x

      to : (x : Fact) → (((fact.Role p a b ≡ x) ⊎ IsPairing (listed roles p.0) a b x)
          ⊎ IsMembership (listed firsts p.0) a x) ⊎ IsMembership (listed seconds p.0) b x
          → Implies incs (fact.Role p a b) x
      to x (inl (inl (inl same))) =
          inl (
            forward p.0,
            here (Along (all_arrows scope.Pairs incs)) (basic.Some (forward p.0)),
            sym same,
          )
      to x (inl (inl (inr (s, there, is)))) = inl (s, role_table.sound p.0 s there, is)
      to x (inl (inr (c, there, is))) = inr (inl (c, first_table.sound p.0 c there, is))
      to x (inr (c, there, is)) = inr (inr (c, second_table.sound p.0 c there, is))

      by_role : (x : Fact) (s : Role) → x ≡ role_fact s a b
          → (forward p.0 ≡ s) ⊎ Contains (listed roles p.0) s
          → (((fact.Role p a b ≡ x) ⊎ IsPairing (listed roles p.0) a b x)
          ⊎ IsMembership (listed firsts p.0) a x) ⊎ IsMembership (listed seconds p.0) b x
      by_role x s is (inl itself) =
          inl (inl (inl (ap (λ (z : Role). role_fact z a b) itself ∙ sym is)))
      by_role x s is (inr there) = inl (inl (inr (s, there, is)))

      by_first : (x : Fact) (c : ConceptId) → x ≡ fact.Concept c a
          → (source_of place.First p.0 ≡ basic.Concept c) ⊎ Contains (listed firsts p.0) c
          → (((fact.Role p a b ≡ x) ⊎ IsPairing (listed roles p.0) a b x)
          ⊎ IsMembership (listed firsts p.0) a x) ⊎ IsMembership (listed seconds p.0) b x
      by_first x c is (inl itself) = absurd (cc)
      by_first x c is (inr there) = inl (inr (c, there, is))

      by_second : (x : Fact) (c : ConceptId) → x ≡ fact.Concept c b
          → (source_of place.Second p.0 ≡ basic.Concept c) ⊎ Contains (listed seconds p.0) c
          → (((fact.Role p a b ≡ x) ⊎ IsPairing (listed roles p.0) a b x)
          ⊎ IsMembership (listed firsts p.0) a x) ⊎ IsMembership (listed seconds p.0) b x
      by_second x c is (inl itself) = absurd (cc)
      by_second x c is (inr there) = inr (c, there, is)

      from : (x : Fact) → Implies incs (fact.Role p a b) x
          → (((fact.Role p a b ≡ x) ⊎ IsPairing (listed roles p.0) a b x)
          ⊎ IsMembership (listed firsts p.0) a x) ⊎ IsMembership (listed seconds p.0) b x
      from x (inl (s, above, is)) = by_role x s is (role_table.complete p.0 s above)
      from x (inr (inl (c, above, is))) = by_first x c is (first_table.complete p.0 c above)
      from x (inr (inr (c, above, is))) = by_second x c is (second_table.complete p.0 c above)

-- some list has exactly what follows
module _ (incs : List Inclusion) (members firsts seconds : List (Vec ConceptId Global))
    (roles : List (Vec Role Global)) (tables : IsConceptTable incs place.Member members
    × IsConceptTable incs place.First firsts × IsConceptTable incs place.Second seconds
    × IsRoleTable incs roles) where
  abbrev All_seen : Fact → Type 0
  All_seen x = Unit {0}

  with_fact : (f : Fact) (old : List Fact) → (new : List Fact)
      × Absorbs (λ x. Implies incs f x × All_seen x) old new
  with_fact (fact.Concept c a) old =
      let own = with_one old (fact.Concept c a) in
      let above = with_image (λ (d : ConceptId). fact.Concept d a) (listed members c.0) own.0 in
      (above.0, concept_added incs All_seen members tables.0 c a old own.0 above.0 own.1 above.1)
  with_fact (fact.Role p a b) old =
      let own = with_one old (fact.Role p a b) in
      let pairs = with_image (λ (s : Role). role_fact s a b) (listed roles p.0) own.0 in
      let first = with_image (λ (d : ConceptId). fact.Concept d a) (listed firsts p.0) pairs.0 in
      let second = with_image (λ (d : ConceptId). fact.Concept d b) (listed seconds p.0)
      first.0 in (
        second.0,
        role_added incs All_seen firsts seconds roles tables.1 tables.2 tables.3 p a b old
            own.0 pairs.0 first.0 second.0 own.1 pairs.1 first.1 second.1,
      )

  with_facts : (facts : List Fact) → (keys : List Fact)
      × Absorbs (λ x. IsImplied incs facts x × All_seen x) [] keys
  with_facts [] = ([], Absorbs-empty All_seen (Implies incs) [])
  with_facts (f ∷ facts) =
      let rest : (keys : List Fact) × Absorbs (λ x. IsImplied incs facts x × All_seen x) [] keys =
      with_facts facts in
      let whole : (new : List Fact) × Absorbs (λ x. Implies incs f x × All_seen x) rest.0 new =
      with_fact f rest.0 in (
        whole.0,
        Absorbs-seen_same All_seen (λ x. IsImplied incs facts x
            ⊎ Implies incs f x) (IsImplied incs (f ∷ facts)) [] whole.0 to from
            (Absorbs-seen_both All_seen (IsImplied incs facts) (Implies incs f) [] rest.0 whole.0
            rest.1 whole.1),
      )
    where
      to : (x : Fact) → IsImplied incs facts x ⊎ Implies incs f x → IsImplied incs (f ∷ facts) x
      to x (inl (g, there, implies)) = (g, Contains-later f facts g there, implies)
      to x (inr implies) = (f, Contains-first f facts, implies)

      by : (x g : Fact) → Implies incs g x → (f ≡ g) ⊎ Contains facts g
          → IsImplied incs facts x ⊎ Implies incs f x
      by x g implies (inl here) = inr (subst (λ (z : Fact). Implies incs z x) (sym here) implies)
      by x g implies (inr there) = inl (g, there, implies)

      from : (x : Fact) → IsImplied incs (f ∷ facts) x → IsImplied incs facts x ⊎ Implies incs f x
      from x (g, there, implies) = by x g implies (Contains-cons_cases f facts g there)

  pub all_implied : (facts : List Fact) → (keys : List Fact)
      × Absorbs (IsImplied incs facts) [] keys
  all_implied facts = let found : (keys : List Fact)
      × Absorbs (λ x. IsImplied incs facts x × All_seen x) [] keys = with_facts facts in (
        found.0,
        Absorbs-same (λ x. IsImplied incs facts x
            × All_seen x) (IsImplied incs facts) [] found.0 (λ x h. h.0) (λ x h. (h, tt)) found.1,
      )

module _ (incs : List Inclusion) (S : Fact → Type 0) where
  found_implied : (facts keys : List Fact) → Absorbs (λ x. IsImplied incs facts x × S x) [] keys
      → (g : Fact) → Contains keys g → IsImplied incs facts g × S g
  found_implied facts keys absorbed g there = by (absorbed.sound g there) where
    by : Contains [] g ⊎ (IsImplied incs facts g × S g) → IsImplied incs facts g × S g
    by (inl none) = absurd (Contains-none g none)
    by (inr both) = both

  -- the facts that were found, in a list of their own
  pub made_snapshot : (facts xs keys items : List Fact) → xs ≡ facts → IsSnapshot facts
      → Absorbs (λ x. IsImplied incs xs x × S x) [] keys → IsDistinct ((fact_eq.ghosts).eq) keys
      → items ≡ keys → IsSnapshot items
  made_snapshot facts xs keys items same sound absorbed unique is =
      let found : Absorbs (λ x. IsImplied incs facts x × S x) [] keys =
      subst (λ (ys : List Fact). Absorbs (λ x. IsImplied incs ys x
      × S x) [] keys) same absorbed in
      subst IsSnapshot (sym is) (record {
        distinct = AllPairs-from_IsDistinct fact_exact keys unique;
        without_nulls = All-from_contains HasNoNull keys (λ g there.
            implied_plain incs facts sound.without_nulls g
            (found_implied facts keys found g there).0);
      })

  pub made_seen : (facts xs keys items whole : List Fact) → xs ≡ facts
      → Absorbs (IsImplied incs facts) [] whole → Absorbs (λ x. IsImplied incs xs x × S x) [] keys
      → items ≡ keys → (g : Fact) → Contains items g ↔ (Contains whole g × S g)
  made_seen facts xs keys items whole same all absorbed is g =
      let found : Absorbs (λ x. IsImplied incs facts x × S x) [] keys =
      subst (λ (ys : List Fact). Absorbs (λ x. IsImplied incs ys x
      × S x) [] keys) same absorbed in
      subst (λ (ys : List Fact). Contains ys g ↔ (Contains whole g × S g)) (sym is) (
        λ there. (let both : IsImplied incs facts g × S g =
            found_implied facts keys found g there in (all.complete g both.0, both.1)),
        λ both. found.complete g (from (all.sound g both.0), both.1),
      )
    where
      from : Contains [] g ⊎ IsImplied incs facts g → IsImplied incs facts g
      from (inl none) = absurd (Contains-none g none)
      from (inr implied) = implied

-- where all is looked at it is the saturation
pub seen_by_all : (incs : List Inclusion) (sight : Sight) (snapshot facts : List Fact)
    → ((f : Fact) → Sees sight f) → IsSeenSaturation incs sight snapshot facts
    → IsSaturation incs snapshot facts
seen_by_all incs sight snapshot facts all (whole, is, same) = record {
  sound = λ f there. is.sound f ((same f).0 there).0;
  complete = λ f plain reached. (same f).1 (is.complete f plain reached, all f);
}
