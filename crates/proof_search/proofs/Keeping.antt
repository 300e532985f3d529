-- What a step of an encoding makes is kept, once the inclusion for which it stands is applied.
use Rattle.std.proofs.Common.{◌≡◌, ℕ, ◌≤◌, List, [], ◌∷◌, ◌++◌, length, refl}
use Rattle.std.proofs.Common.{sym, subst, arith, inl, inr}
use Rattle.std.specs.Prelude.{◌⊎◌, Some, None, Option}
use Rattle.std.specs.List.{All, Contains}
use Rattle.std.proofs.lemmas.List.Elements.{All-contains, Contains-append_left}
use Rattle.std.proofs.lemmas.List.Elements.{Contains-append_right}
use Rattle.std.proofs.lemmas.List.Elements.{Contains-push}
use Rattle.dl_syntax.specs.declared.names.ConceptId.{ConceptId}
use Rattle.dl_syntax.specs.declared.facts.Element.{Element}
use Rattle.dl_syntax.specs.declared.facts.Element.TheVariants.{Null}
use Rattle.dl_syntax.specs.declared.facts.Fact.{Fact}
use Rattle.dl_syntax.specs.declared.facts.Fact.TheVariants as fact
use Rattle.dl_syntax.specs.declared.ontology.Role.{Role}
use Rattle.dl_syntax.specs.declared.ontology.Basic.{Basic}
use Rattle.dl_syntax.specs.declared.ontology.Basic.TheVariants as basic
use Rattle.dl_syntax.specs.declared.ontology.Inclusion.{Inclusion}
use Rattle.dl_syntax.specs.declared.ontology.Inclusion.TheVariants as inclusion
use Rattle.dl_syntax.specs.Facts.{In, role_fact, element_in, pair_in}
use Rattle.dl_syntax.specs.Chase.{Makes, made_by, made_of, basic_fact}
use Rattle.dl_syntax.specs.Declaring.{IsDeclaredBasic, IsDeclaredInclusion, IsDeclaredFact}
use Rattle.dl_syntax.specs.Encode.{encode, hidden}
use Rattle.list_lemmas.proofs.Elements.{Contains-first, Contains-later}
use Rattle.dl_syntax.proofs.FactLaws.{In-element_in, Pair-pair_in}
use Rattle.dl_syntax.proofs.HiddenRoles.{Hides, Hides-above, Hides-listed, Hides-unique, told, Told}
use Rattle.dl_syntax.proofs.HiddenRoles.{listed_concepts, listed_roles, hidden_start, hidden_pair}
use Rattle.dl_syntax.proofs.HiddenRoles.{hidden_end}
use Rattle.dl_syntax.proofs.Images.{role_fact_declared, basic_fact_declared, Pair-declared}
use Rattle.dl_syntax.proofs.Images.{In-declared}
use Rattle.dl_syntax.proofs.RunLaws.{made_is_fixed}
use Rattle.dl_syntax.proofs.Simulation.{Kept, kept_declared}
use Rattle.proof_search.specs.Origin.{StandsFor, StandsForNone}

-- either nothing is made, or what is made
made_or_none : (i : Inclusion) (f : Fact) (place : ℕ)
    → (made_by i f place ≡ []) ⊎ Makes i f place (made_by i f place)
made_or_none (inclusion.Concepts b c) f place = by (element_in b f) refl
  where
    by : (found : Option Element) → element_in b f ≡ found
        → (made_of (λ e. basic_fact c e place ∷ []) found ≡ [])
        ⊎ Makes (inclusion.Concepts b c) f place (made_of (λ e. basic_fact c e place ∷ []) found)
    by None here = inl refl
    by (Some e) here = inr (e, In-element_in b f e here, refl)
made_or_none (inclusion.Roles r s) f place = by (pair_in r f) refl
  where
    by : (found : Option (Element × Element)) → pair_in r f ≡ found
        → (made_of (λ pair. role_fact s pair.0 pair.1 ∷ []) found ≡ [])
        ⊎ Makes (inclusion.Roles r s) f place
        (made_of (λ pair. role_fact s pair.0 pair.1 ∷ []) found)
    by None here = inl refl
    by (Some (x, y)) here = inr (x, y, Pair-pair_in r f x y here, refl)
made_or_none (inclusion.Qualified b r c) f place = by (element_in b f) refl
  where
    by : (found : Option Element) → element_in b f ≡ found
        → (made_of (λ e. role_fact r e (Null place) ∷ fact.Concept c (Null place) ∷ []) found ≡ [])
        ⊎ Makes (inclusion.Qualified b r c) f place
        (made_of (λ e. role_fact r e (Null place) ∷ fact.Concept c (Null place) ∷ []) found)
    by None here = inl refl
    by (Some e) here = inr (e, In-element_in b f e here, refl)

-- the one fact that is made
pub makes_one : (i : Inclusion) (f g : Fact) (place : ℕ) → made_by i f place ≡ g ∷ []
    → Makes i f place (g ∷ [])
makes_one i f g place one = elim (made_or_none i f place) [
  | inl none ↦ absurd (cc)
  | inr makes ↦ subst (Makes i f place) one makes
]

module _ (concepts count : ℕ) (inclusions : List Inclusion)
    (declared : All (IsDeclaredInclusion concepts count) inclusions) where
  -- a declared fact of the run is kept
  pub declared_kept : (run : List Fact) (f : Fact) → IsDeclaredFact concepts count f
      → Contains run f → Kept count inclusions run f
  declared_kept run (fact.Concept c e) is there = there
  declared_kept run (fact.Role p x y) is there = (
    λ below. there,
    λ b r c hides. let above : count ≤ p.0 =
        Hides-above count inclusions p.0 b r c hides in absurd (omega arith),
  )

  -- what a run keeps a longer one keeps
  pub kept_longer : (run more : List Fact) (f : Fact) → Kept count inclusions run f
      → Kept count inclusions (run ++ more) f
  kept_longer run more (fact.Concept c e) kept =
      Contains-append_left run more (fact.Concept c e) kept
  kept_longer run more (fact.Role p x y) kept = (
    λ below. Contains-append_left run more (fact.Role p x y) (kept.0 below),
    λ b r c hides. let both = kept.1 b r c hides in (
      Contains-append_left run more (role_fact r x y) both.0,
      Contains-append_left run more (fact.Concept c y) both.1,
    ),
  )

  is_declared : (i : Inclusion) → Contains inclusions i → IsDeclaredInclusion concepts count i
  is_declared i there = All-contains (IsDeclaredInclusion concepts count) inclusions i declared
      there

  -- what is made of the fact by an inclusion of the list that makes one fact, and the run has the
  -- fact
  pub record Settled (run : List Fact) (j : Inclusion) (f g : Fact) : Type 0 where
    pub there : Contains run f
    pub some : made_by j f (length run) ≡ [] → ⊥
    pub kept : Kept count inclusions (run ++ made_by j f (length run)) g

  below_there : (run : List Fact) (b : Basic) (e : Element) (f : Fact)
      → IsDeclaredBasic concepts count b → Kept count inclusions run f → In b e f → Contains run f
  below_there run b e f below kept is =
      kept_declared concepts count inclusions run f (In-declared concepts count b e f is below) kept

  settled_listed : (run : List Fact) (i : Inclusion) (f g : Fact) → Contains inclusions i
      → Kept count inclusions run f → Makes i f (length run) (g ∷ [])
      → Settled run i f g
  settled_listed run (inclusion.Concepts b c) f g listed kept (e, is, whole) =
      let parts = is_declared (inclusion.Concepts b c) listed in
      let made : g ∷ [] ≡ made_by (inclusion.Concepts b c) f (length run) =
      made_is_fixed (inclusion.Concepts b c) f (length run) (g ∷ []) (e, is, whole) in
      let same : g ≡ basic_fact c e (length run) = cc in
      record {
        there = below_there run b e f parts.0 kept is;
        some = λ none. cc;
        kept = subst (λ (xs : List Fact). Kept count inclusions (run ++ xs) g) made
            (declared_kept (run ++ g ∷ []) g
            (subst (IsDeclaredFact concepts count) (sym same)
            (basic_fact_declared concepts count c e (length run) parts.1))
            (Contains-push run g));
      }
  settled_listed run (inclusion.Roles r s) f g listed kept (e, e', is, whole) =
      let parts = is_declared (inclusion.Roles r s) listed in
      let made : g ∷ [] ≡ made_by (inclusion.Roles r s) f (length run) =
      made_is_fixed (inclusion.Roles r s) f (length run) (g ∷ []) (e, e', is, whole) in
      let same : g ≡ role_fact s e e' = cc in
      record {
        there = kept_declared concepts count inclusions run f
            (Pair-declared concepts count r e e' f is parts.0) kept;
        some = λ none. cc;
        kept = subst (λ (xs : List Fact). Kept count inclusions (run ++ xs) g) made
            (declared_kept (run ++ g ∷ []) g
            (subst (IsDeclaredFact concepts count) (sym same)
            (role_fact_declared concepts count s e e' parts.1))
            (Contains-push run g));
      }
  settled_listed run (inclusion.Qualified b r c) f g listed kept (e, is, whole) = absurd (cc)

  settled_start : (run : List Fact) (h : ℕ) (b : Basic) (r : Role) (c : ConceptId) (f g : Fact)
      → Hides count inclusions h b r c → Kept count inclusions run f
      → Makes (inclusion.Concepts b (basic.Some (hidden h))) f (length run) (g ∷ [])
      → Settled run (inclusion.Qualified b r c) f g
  settled_start run h b r c f g hides kept (e, is, whole) =
      let listed = Hides-listed count inclusions h b r c hides in
      let parts = is_declared (inclusion.Qualified b r c) listed in
      let null : Element = Null (length run) in
      let y : Fact = role_fact r e null in
      let z : Fact = fact.Concept c null in
      let longer : List Fact = run ++ (y ∷ z ∷ []) in
      let made : y ∷ z ∷ [] ≡ made_by (inclusion.Qualified b r c) f (length run) =
      made_is_fixed (inclusion.Qualified b r c) f (length run) (y ∷ z ∷ []) (e, is, refl) in
      let same : fact.Role (hidden h).id e null ≡ g = sym (cc) in
      let both : Kept count inclusions longer (fact.Role (hidden h).id e null) = (
        λ below. (let above : count ≤ h = Hides-above count inclusions h b r c hides in
            absurd (omega arith)),
        λ b' r' c' also.
            let alike : (r ≡ r') × (c ≡ c') =
            Hides-unique count inclusions h b r c b' r' c' hides also in (
              subst (λ (s : Role). Contains longer (role_fact s e null)) alike.0
                  (Contains-append_right run (y ∷ z ∷ []) y (Contains-first y (z ∷ []))),
              subst (λ (d : ConceptId). Contains longer (fact.Concept d null)) alike.1
                  (Contains-append_right run (y ∷ z ∷ []) z
                  (Contains-later y (z ∷ []) z (Contains-first z []))),
            ),
      ) in
      record {
        there = below_there run b e f parts.0 kept is;
        some = λ none. cc;
        kept = subst (λ (xs : List Fact). Kept count inclusions (run ++ xs) g) made
            (subst (Kept count inclusions longer) same both);
      }

  -- where it stands for an inclusion of the list
  pub settled : (run : List Fact) (i j : Inclusion) (f g : Fact) → Contains inclusions j
      → StandsFor count inclusions i j → Kept count inclusions run f
      → Makes i f (length run) (g ∷ []) → Settled run j f g
  settled run i j f g listed (inl same) kept makes =
      settled_listed run j f g listed kept
      (subst (λ (k : Inclusion). Makes k f (length run) (g ∷ [])) (sym same) makes)
  settled run i j f g listed (inr s) kept makes =
      subst (λ (k : Inclusion). Settled run k f g) (sym s.stands)
      (settled_start run s.number s.below s.role s.concept f g s.hides kept
      (subst (λ (k : Inclusion). Makes k f (length run) (g ∷ [])) s.is makes))

  -- where it stands for none the run has what it makes
  kept_by : (run : List Fact) (i : Inclusion) (f g : Fact) (n : ℕ) → Told count inclusions i
      → StandsForNone count inclusions i → Kept count inclusions run f → Makes i f n (g ∷ [])
      → Kept count inclusions run g
  kept_by run i f g n (listed_concepts b c listed) none kept makes = absurd (none.not_listed listed)
  kept_by run i f g n (listed_roles r s listed) none kept makes = absurd (none.not_listed listed)
  kept_by run i f g n (hidden_start h b r c hides) none kept makes =
      absurd (none.starts_none (inclusion.Qualified b r c) (record {
        number = h;
        below = b;
        role = r;
        concept = c;
        hides = hides;
        is = refl;
        stands = refl;
      }))
  kept_by run i f g n (hidden_pair h b r c hides) none kept (e, e', is, whole) =
      let parts = is_declared (inclusion.Qualified b r c)
      (Hides-listed count inclusions h b r c hides) in
      let before : Kept count inclusions run (fact.Role (hidden h).id e e') =
      subst (Kept count inclusions run) is kept in
      let same : role_fact r e e' ≡ g = sym (cc) in
      subst (Kept count inclusions run) same
      (declared_kept run (role_fact r e e')
      (role_fact_declared concepts count r e e' parts.1) (before.1 b r c hides).0)
  kept_by run i f g n (hidden_end h b r c hides) none kept (e, (e', is), whole) =
      let before : Kept count inclusions run (fact.Role (hidden h).id e' e) =
      subst (Kept count inclusions run) is kept in
      let same : fact.Concept c e ≡ g = sym (cc) in
      subst (Kept count inclusions run) same (before.1 b r c hides).1

  pub kept_none : (run : List Fact) (i : Inclusion) (f g : Fact) (n : ℕ)
      → Contains (encode count inclusions) i → StandsForNone count inclusions i
      → Kept count inclusions run f → Makes i f n (g ∷ []) → Kept count inclusions run g
  kept_none run i f g n there none kept makes =
      kept_by run i f g n (told count inclusions i there) none kept makes
