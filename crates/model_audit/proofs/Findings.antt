-- What is found does not depend on the order of the facts held, and says whether they are a finite
-- model.
use Rattle.std.proofs.Common.{◌≡◌, ℕ, List, take, get_or, refl, subst}
use Rattle.std.specs.Prelude.{◌↔◌}
use Rattle.std.specs.List.{All, Contains}
use Rattle.std.proofs.lemmas.List.Elements.{All-contains, All-weaker}
use Rattle.std.proofs.lemmas.Option.{slice_get_within, get_or_from_slice_get}
use Rattle.dl_syntax.specs.declared.facts.Fact.{Fact}
use Rattle.dl_syntax.specs.declared.facts.Fact.TheVariants as fact
use Rattle.dl_syntax.specs.declared.ontology.Inclusion.{Inclusion}
use Rattle.dl_syntax.specs.declared.ontology.Inclusion.TheVariants as inclusion
use Rattle.dl_syntax.specs.declared.ontology.Clash.{Clash}
use Rattle.dl_syntax.specs.declared.ontology.Clash.TheVariants as clash
use Rattle.dl_syntax.specs.Facts.{role_fact}
use Rattle.dl_syntax.specs.Ontology.{Declared}
use Rattle.list_lemmas.proofs.Elements.{All-from_contains}
use Rattle.model_audit.specs.FiniteModels.{
  IsMember,
  HasPartner,
  Keeps,
  Satisfies,
  Avoids,
  IsFiniteModel,
}
use Rattle.model_audit.specs.First.{LacksFirst}
use Rattle.model_audit.specs.Examining.{IsFoundIn, IsFound}
use Rattle.model_audit.specs.declared.examining.Finding.{Finding}
use Rattle.model_audit.specs.declared.examining.Finding.TheVariants.{
  Missing,
  Broken,
  Clash as Met,
  Model,
}

pub lacks_not_all : {X : Type 0} (P : X → Type 0) (xs : List X) (k : ℕ) → LacksFirst P xs k
    → All P xs → ⊥
lacks_not_all P xs k lack all =
    lack.lacks (subst P (get_or_from_slice_get xs k lack.element lack.element lack.there)
    (all k lack.element (slice_get_within xs k lack.element lack.there)))

lacks_alike : {X : Type 0} (P Q : X → Type 0) → ((x : X) → P x → Q x) → ((x : X) → Q x → P x)
    → (xs : List X) (k : ℕ)
    → LacksFirst P xs k → LacksFirst Q xs k
lacks_alike P Q to from xs k lack = record {
  element = lack.element;
  there = lack.there;
  lacks = λ has. lack.lacks (from lack.element has);
  earlier = All-weaker P Q to (take k xs) lack.earlier;
}

module _ (one other : List Fact) (same : (f : Fact) → Contains one f → Contains other f) where
  keeps_more : (i : Inclusion) (f : Fact) → Keeps one i f → Keeps other i f
  keeps_more (inclusion.Concepts b c) f keeps = λ e inside.
      let found : IsMember one c e = keeps e inside in (found.0, same found.0 found.1, found.2)
  keeps_more (inclusion.Roles r s) f keeps = λ e e' pair. same (role_fact s e e') (keeps e e' pair)
  keeps_more (inclusion.Qualified b r c) f keeps = λ e inside.
      let found : HasPartner one r c e = keeps e inside in
      (found.0, same (role_fact r e found.0) found.1, same (fact.Concept c found.0) found.2)

  avoids_fewer : (m : Clash) → Avoids other m → Avoids one m
  avoids_fewer (clash.Concepts b c) avoids (f, g, e, here, there, in_b, in_c) =
      avoids (f, g, e, same f here, same g there, in_b, in_c)
  avoids_fewer (clash.Roles r s) avoids (f, g, e, e', here, there, in_r, in_s) =
      avoids (f, g, e, e', same f here, same g there, in_r, in_s)

module _ (one other : List Fact) (to : (f : Fact) → Contains one f → Contains other f)
    (from : (f : Fact) → Contains other f → Contains one f) where
  satisfies_alike : (i : Inclusion) → Satisfies one i → Satisfies other i
  satisfies_alike i satisfies = All-from_contains (Keeps other i) other (λ f there.
      keeps_more one other to i f (All-contains (Keeps one i) one f satisfies (from f there)))

module _ (o : Declared) (snapshot held facts : List Fact) (same : (f : Fact) → Contains held f
    ↔ Contains facts f) where
  to : (f : Fact) → Contains held f → Contains facts f
  to f there = (same f).0 there

  from : (f : Fact) → Contains facts f → Contains held f
  from f there = (same f).1 there

  pub found_alike : (finding : Finding) → IsFoundIn o snapshot held facts finding
      → IsFound o snapshot facts finding
  found_alike (Missing place) lack =
      lacks_alike (Contains held) (Contains facts) to from snapshot place lack
  found_alike (Broken number place) (there, broken) = (
    All-weaker (Contains held) (Contains facts) to snapshot there,
    record {
      before = broken.before;
      counted = broken.counted;
      inclusion = broken.inclusion;
      there = broken.there;
      earlier =
          All-weaker (Satisfies held) (Satisfies facts) (satisfies_alike held facts to from)
          (take broken.before o.inclusions) broken.earlier;
      broken = lacks_alike (Keeps held broken.inclusion) (Keeps facts broken.inclusion)
          (keeps_more held facts to broken.inclusion) (keeps_more facts held from broken.inclusion)
          facts place broken.broken;
    },
  )
  found_alike (Met number) (there, satisfied, met) = (
    All-weaker (Contains held) (Contains facts) to snapshot there,
    All-weaker (Satisfies held) (Satisfies facts) (satisfies_alike held facts to from) o.inclusions
        satisfied,
    record {
      before = met.before;
      counted = met.counted;
      met = lacks_alike (Avoids held) (Avoids facts) (avoids_fewer facts held from)
          (avoids_fewer held facts to) o.clashes met.before met.met;
    },
  )
  found_alike Model model = record {
    holds = All-weaker (Contains held) (Contains facts) to snapshot model.holds;
    satisfies =
        All-weaker (Satisfies held) (Satisfies facts) (satisfies_alike held facts to from)
        o.inclusions model.satisfies;
    avoids = All-weaker (Avoids held) (Avoids facts) (avoids_fewer facts held from) o.clashes
        model.avoids;
  }

  pub found_of : (listed_snapshot listed : List Fact) → listed_snapshot ≡ snapshot → listed ≡ facts
      → (finding : Finding)
      → IsFoundIn o listed_snapshot held listed finding → IsFound o snapshot facts finding
  found_of listed_snapshot listed of_snapshot of_facts finding is =
      found_alike finding
      (subst (λ (fs : List Fact). IsFoundIn o snapshot held fs finding) of_facts
      (subst (λ (fs : List Fact). IsFoundIn o fs held listed finding) of_snapshot is))

-- an inclusion that is not satisfied has a fact in the list whose right side is missing
pub unsatisfied_has_fact : (held facts : List Fact)
    → ((f : Fact) → Contains held f ↔ Contains facts f)
    → (inclusions : List Inclusion) (before : ℕ) (d : Inclusion)
    → LacksFirst (Satisfies held) inclusions before
    → All (Keeps held (get_or inclusions before d)) facts → ⊥
unsatisfied_has_fact held facts same inclusions before d lack all =
    let is : get_or inclusions before d ≡ lack.element =
    get_or_from_slice_get inclusions before lack.element d lack.there in
    lack.lacks
    (subst (Satisfies held) is
    (All-from_contains (Keeps held (get_or inclusions before d)) held (λ f there.
    All-contains (Keeps held (get_or inclusions before d)) facts f all ((same f).0 there))))

module _ (o : Declared) (snapshot facts : List Fact) where
  pub found_exact : (finding : Finding) → IsFound o snapshot facts finding → (finding ≡ Model)
      ↔ IsFiniteModel o.inclusions o.clashes snapshot facts
  found_exact (Missing place) lack = (
    λ is. absurd (cc),
    λ model.
        absurd (lacks_not_all (Contains facts) snapshot place lack model.holds),
  )
  found_exact (Broken number place) (there, broken) = (
    λ is. absurd (cc),
    λ model. absurd (lacks_not_all (Keeps facts broken.inclusion) facts place broken.broken
        (subst (Satisfies facts)
        (get_or_from_slice_get o.inclusions broken.before broken.inclusion broken.inclusion
        broken.there)
        (model.satisfies broken.before broken.inclusion
        (slice_get_within o.inclusions broken.before broken.inclusion broken.there)))),
  )
  found_exact (Met number) (there, satisfied, met) = (
    λ is. absurd (cc),
    λ model. absurd (lacks_not_all (Avoids facts) o.clashes met.before met.met model.avoids),
  )
  found_exact Model model = (λ is. model, λ again. refl)
