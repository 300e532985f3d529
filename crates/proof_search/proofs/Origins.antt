-- For which inclusion of the ontology one of its encoding stands.
use Rattle.std.proofs.Common.{◌≡◌, ℕ, suc, ◌+◌, ◌<◌, ◌≤◌, List, [], ◌∷◌, length, refl}
use Rattle.std.proofs.Common.{sym, ◌∙◌, subst, arith, drop, drop-cons, get_or, inl, inr}
use Rattle.std.proofs.Common.{add-one}
use Rattle.std.specs.Prelude.{◌⊎◌}
use Rattle.std.specs.List.{Contains}
use Rattle.std.proofs.lemmas.List.{drop_all}
use Rattle.std.proofs.lemmas.Option.{slice_get-get_or}
use Rattle.dl_syntax.specs.declared.names.ConceptId.{ConceptId}
use Rattle.dl_syntax.specs.declared.ontology.Basic.{Basic}
use Rattle.dl_syntax.specs.declared.ontology.Role.{Role}
use Rattle.dl_syntax.specs.declared.ontology.Inclusion.{Inclusion}
use Rattle.dl_syntax.specs.declared.ontology.Inclusion.TheVariants as inclusion
use Rattle.dl_syntax.specs.Encode.{number_after}
use Rattle.list_lemmas.proofs.Elements.{Contains-cons_cases}
use Rattle.dl_syntax.proofs.HiddenRoles.{Hides}
use Rattle.proof_search.specs.Origin.{Starts, StandsAt, StandsFor, StandsForNumber, StandsForNone}

-- what the rest of the list hides the whole list hides, by the numbers reached so far
abbrev pub Behind : ℕ → List Inclusion → ℕ → List Inclusion → Type 0
Behind roles inclusions number rest = (h : ℕ) (b : Basic) (r : Role) (c : ConceptId)
    → Hides number rest h b r c → Hides roles inclusions h b r c

-- whatever the whole list says of the inclusion the rest says
pub record Searched (roles : ℕ) (inclusions : List Inclusion) (i : Inclusion) (k number : ℕ)
    : Type 0 where
  pub behind : Behind roles inclusions number (drop k inclusions)
  pub listed_rest : Contains inclusions i → Contains (drop k inclusions) i
  pub starts_rest : (j : Inclusion) → Starts roles inclusions i j
      → Starts number (drop k inclusions) i j
  pub near : number ≤ roles + k

pub searched_none : (roles : ℕ) (inclusions : List Inclusion) (i : Inclusion)
    → Searched roles inclusions i 0 roles
searched_none roles inclusions i = record {
  behind = λ h b r c hides. hides;
  listed_rest = λ there. there;
  starts_rest = λ j starts. starts;
  near = omega arith;
}

hides_more : (number : ℕ) (x : Inclusion) (rest : List Inclusion) (h : ℕ) (b : Basic) (r : Role)
    (c : ConceptId) → Hides (number_after number x) rest h b r c → Hides number (x ∷ rest) h b r c
hides_more number (inclusion.Concepts y z) rest h b r c hides = hides
hides_more number (inclusion.Roles y z) rest h b r c hides = hides
hides_more number (inclusion.Qualified y z w) rest h b r c hides = inr hides

starts_more : (number : ℕ) (x : Inclusion) (rest : List Inclusion) (i j : Inclusion)
    → (StandsAt number i x → ⊥) → Starts number (x ∷ rest) i j
    → Starts (number_after number x) rest i j
starts_more number (inclusion.Concepts y z) rest i j not s = record {
  number = s.number;
  below = s.below;
  role = s.role;
  concept = s.concept;
  hides = s.hides;
  is = s.is;
  stands = s.stands;
}
starts_more number (inclusion.Roles y z) rest i j not s = record {
  number = s.number;
  below = s.below;
  role = s.role;
  concept = s.concept;
  hides = s.hides;
  is = s.is;
  stands = s.stands;
}
starts_more number (inclusion.Qualified y z w) rest i j not s = by s.hides
  where
    by : ((number ≡ s.number) × (y ≡ s.below) × (z ≡ s.role) × (w ≡ s.concept))
        ⊎ Hides (suc number) rest s.number s.below s.role s.concept
        → Starts (suc number) rest i j
    by (inl (same, below, role, concept)) = absurd (not (inl (s.is ∙ sym (cc))))
    by (inr later) = record {
      number = s.number;
      below = s.below;
      role = s.role;
      concept = s.concept;
      hides = later;
      is = s.is;
      stands = s.stands;
    }

stands_itself : (number : ℕ) (x : Inclusion) → StandsAt number x x
stands_itself number (inclusion.Concepts y z) = refl
stands_itself number (inclusion.Roles y z) = refl
stands_itself number (inclusion.Qualified y z w) = inr refl

number_near : (number : ℕ) (x : Inclusion) → number_after number x ≤ number + 1
number_near number (inclusion.Concepts y z) = omega arith
number_near number (inclusion.Roles y z) = omega arith
number_near number (inclusion.Qualified y z w) = omega arith

-- an inclusion that it stands for
found : (roles : ℕ) (inclusions : List Inclusion) (number : ℕ) (i x : Inclusion)
    (rest : List Inclusion) → Behind roles inclusions number (x ∷ rest) → StandsAt number i x
    → StandsFor roles inclusions i x
found roles inclusions number i (inclusion.Concepts y z) rest behind same = inl (sym same)
found roles inclusions number i (inclusion.Roles y z) rest behind same = inl (sym same)
found roles inclusions number i (inclusion.Qualified y z w) rest behind (inr same) = inl (sym same)
found roles inclusions number i (inclusion.Qualified y z w) rest behind (inl is) = inr (record {
  number = number;
  below = y;
  role = z;
  concept = w;
  hides = behind number y z w (inl (refl, refl, refl, refl));
  is = is;
  stands = refl;
})

module _ (roles : ℕ) (inclusions : List Inclusion) (i : Inclusion) (k number : ℕ)
    (s : Searched roles inclusions i k number) where
  module _ (d : Inclusion) (within : k < length inclusions) where
    cut : drop k inclusions ≡ get_or inclusions k d ∷ drop (k + 1) inclusions
    cut = rw add-one (drop-cons inclusions k d within)

    pub searched_more : (next : ℕ) → next ≡ number_after number (get_or inclusions k d)
        → (StandsAt number i (get_or inclusions k d) → ⊥)
        → Searched roles inclusions i (k + 1) next
    searched_more next is not = subst (Searched roles inclusions i (k + 1)) (sym is) (record {
      behind = λ h b r c hides. s.behind h b r c
          (subst (λ (xs : List Inclusion). Hides number xs h b r c) (sym cut)
          (hides_more number x (drop (k + 1) inclusions) h b r c hides));
      listed_rest = λ there. elim (Contains-cons_cases x (drop (k + 1) inclusions) i
          (subst (λ (xs : List Inclusion). Contains xs i) cut (s.listed_rest there))) [
            | inl same ↦ absurd (not (subst (λ (y : Inclusion). StandsAt number y x) same
                (stands_itself number x)))
            | inr later ↦ later
          ];
      starts_rest = λ j starts. starts_more number x (drop (k + 1) inclusions) i j not
          (subst (λ (xs : List Inclusion). Starts number xs i j) cut (s.starts_rest j starts));
      near = (let prior : number ≤ roles + k = s.near in omega (arith, number_near number x));
    })
      where
        x : Inclusion
        x = get_or inclusions k d

    pub stands_number : (n : ℕ) → n ≡ k + 1 → StandsAt number i (get_or inclusions k d)
        → StandsForNumber roles inclusions i n
    stands_number n is at =
        subst (StandsForNumber roles inclusions i) (sym (is ∙ add-one k)) (
          get_or inclusions k d,
          slice_get-get_or inclusions k d within,
          found roles inclusions number i (get_or inclusions k d) (drop (k + 1) inclusions)
              (subst (Behind roles inclusions number) cut s.behind) at,
        )

  pub stands_none : length inclusions ≤ k → StandsForNone roles inclusions i
  stands_none past = record {
    not_listed = λ there. let none : Contains [] i =
        subst (λ (xs : List Inclusion). Contains xs i) (drop_all k inclusions past)
        (s.listed_rest there) in absurd (omega (arith, none.1));
    starts_none = λ j starts. let none : Starts number [] i j =
        subst (λ (xs : List Inclusion). Starts number xs i j) (drop_all k inclusions past)
        (s.starts_rest j starts) in absurd none.hides;
  }
