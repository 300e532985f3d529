-- What one fact shows of an inclusion or a clash, and which facts have to be looked at.
use Rattle.std.proofs.Common.{◌≡◌, Bool, true, false, List, refl, sym, ◌∙◌, ap, subst}
use Rattle.std.specs.Prelude.{◌↔◌, IsTrue, not, Option, None, Some}
use Rattle.std.specs.List.{All, Contains}
use Rattle.std.proofs.lemmas.List.Elements.{All-contains}
use Rattle.dl_syntax.specs.declared.names.ConceptId.{ConceptId}
use Rattle.dl_syntax.specs.declared.facts.Element.{Element}
use Rattle.dl_syntax.specs.declared.facts.Fact.{Fact}
use Rattle.dl_syntax.specs.declared.ontology.Role.{Role}
use Rattle.dl_syntax.specs.declared.ontology.Basic.{Basic}
use Rattle.dl_syntax.specs.declared.ontology.Inclusion.{Inclusion}
use Rattle.dl_syntax.specs.declared.ontology.Inclusion.TheVariants as inclusion
use Rattle.dl_syntax.specs.declared.ontology.Clash.{Clash}
use Rattle.dl_syntax.specs.declared.ontology.Clash.TheVariants as clash
use Rattle.dl_syntax.specs.Facts.{In, Pair, element_in, pair_in, role_fact}
use Rattle.dl_syntax.specs.Laws.{Applies}
use Rattle.list_lemmas.proofs.Elements.{All-from_contains}
use Rattle.dl_syntax.proofs.FactLaws.{pair_in-Pair, Pair-pair_in, element_in-In, In-element_in}
use Rattle.model_audit.specs.FiniteModels.{IsMember, HasPartner, Keeps, IsApart, Avoids}
use Rattle.model_audit.specs.Clashes.{turned_clash, IsOnLeft}

pub same_element : (b : Basic) (f : Fact) (e other : Element) → element_in b f ≡ Some e
    → In b other f → e ≡ other
same_element b f e other is inside =
    let both : Some e ≡ Some other = sym is ∙ element_in-In b f other inside in cc

abbrev pair_or : Element × Element → Option (Element × Element) → Element × Element
pair_or d None = d
pair_or d (Some p) = p

same_pair : (r : Role) (f : Fact) (x y e e' : Element) → pair_in r f ≡ Some (x, y) → Pair r e e' f
    → (x ≡ e) × (y ≡ e')
same_pair r f x y e e' is pair =
    let both : Some (x, y) ≡ Some (e, e') = sym is ∙ pair_in-Pair r f e e' pair in (
      ap (λ (o : Option (Element × Element)). (pair_or (x, y) o).0) both,
      ap (λ (o : Option (Element × Element)). (pair_or (x, y) o).1) both,
    )

module _ (facts : List Fact) (f : Fact) (found : Bool) where
  pub keeps_concepts : (b c : Basic) (e : Element) → element_in b f ≡ Some e → IsTrue found
      ↔ IsMember facts c e
      → IsTrue found ↔ Keeps facts (inclusion.Concepts b c) f
  keeps_concepts b c e is tells = (
    λ yes other inside. subst (IsMember facts c) (same_element b f e other is inside) (tells.0 yes),
    λ keeps. tells.1 (keeps e (In-element_in b f e is)),
  )

  pub keeps_roles : (r s : Role) (x y : Element) → pair_in r f ≡ Some (x, y) → IsTrue found
      ↔ Contains facts (role_fact s x y)
      → IsTrue found ↔ Keeps facts (inclusion.Roles r s) f
  keeps_roles r s x y is tells = (
    λ yes e e' pair.
        let same : (x ≡ e) × (y ≡ e') = same_pair r f x y e e' is pair in
        subst (λ (z : Element). Contains facts (role_fact s z e')) same.0
        (subst (λ (z : Element). Contains facts (role_fact s x z)) same.1 (tells.0 yes)),
    λ keeps. tells.1 (keeps x y (Pair-pair_in r f x y is)),
  )

  pub keeps_qualified : (b : Basic) (r : Role) (c : ConceptId) (e : Element)
      → element_in b f ≡ Some e
      → IsTrue found ↔ HasPartner facts r c e → IsTrue found
      ↔ Keeps facts (inclusion.Qualified b r c) f
  keeps_qualified b r c e is tells = (
    λ yes other inside.
        subst (HasPartner facts r c) (same_element b f e other is inside) (tells.0 yes),
    λ keeps. tells.1 (keeps e (In-element_in b f e is)),
  )

no_longer : (found : Bool) → IsTrue (not found) → IsTrue found → ⊥
no_longer true denied there = cc
no_longer false denied there = cc

unless : (found : Bool) → (IsTrue found → ⊥) → IsTrue (not found)
unless true none = absurd (none refl)
unless false none = refl

module _ (facts : List Fact) (f : Fact) (found : Bool) where
  pub apart_concepts : (b c : Basic) (e : Element) → element_in b f ≡ Some e → IsTrue found
      ↔ IsMember facts c e
      → IsTrue (not found) ↔ IsApart facts (clash.Concepts b c) f
  apart_concepts b c e is tells = (
    λ no other inside member.
        no_longer found no
        (tells.1 (subst (IsMember facts c) (sym (same_element b f e other is inside)) member)),
    λ apart. unless found (λ yes. apart e (In-element_in b f e is) (tells.0 yes)),
  )

  pub apart_roles : (r s : Role) (x y : Element) → pair_in r f ≡ Some (x, y) → IsTrue found
      ↔ Contains facts (role_fact s x y)
      → IsTrue (not found) ↔ IsApart facts (clash.Roles r s) f
  apart_roles r s x y is tells = (
    λ no e e' pair there.
        let same : (x ≡ e) × (y ≡ e') = same_pair r f x y e e' is pair in
        no_longer found no
        (tells.1 (subst (λ (z : Element). Contains facts (role_fact s z y)) (sym same.0)
        (subst (λ (z : Element). Contains facts (role_fact s e z)) (sym same.1) there))),
    λ apart. unless found (λ yes. apart x y (Pair-pair_in r f x y is) (tells.0 yes)),
  )

module _ (facts part : List Fact) where
  keeps_where : (i : Inclusion) (f : Fact) → (Applies i f → Keeps facts i f) → Keeps facts i f
  keeps_where (inclusion.Concepts b c) f keeps = λ e inside. keeps (e, inside) e inside
  keeps_where (inclusion.Roles r s) f keeps = λ e e' pair. keeps (e, e', pair) e e' pair
  keeps_where (inclusion.Qualified b r c) f keeps = λ e inside. keeps (e, inside) e inside

  pub keeps_all : (i : Inclusion)
      → ((f : Fact) → Contains part f ↔ (Contains facts f × Applies i f))
      → All (Keeps facts i) part ↔ All (Keeps facts i) facts
  keeps_all i same = (
    λ all. All-from_contains (Keeps facts i) facts (λ f there.
        keeps_where i f
        (λ applies. All-contains (Keeps facts i) part f all ((same f).1 (there, applies)))),
    λ all. All-from_contains (Keeps facts i) part
        (λ f there. All-contains (Keeps facts i) facts f all ((same f).0 there).0),
  )

  pub apart_all : (m : Clash) → ((f : Fact) → Contains part f ↔ (Contains facts f × IsOnLeft m f))
      → All (IsApart facts m) part ↔ Avoids facts m
  apart_all (clash.Concepts b c) same = (
    λ all (f, g, e, one, other, in_b, in_c).
        All-contains (IsApart facts (clash.Concepts b c)) part f all ((same f).1 (one, (e, in_b))) e
        in_b (g, other, in_c),
    λ avoids.
        All-from_contains (IsApart facts (clash.Concepts b c)) part (λ f there e inside member.
        avoids (f, member.0, e, ((same f).0 there).0, member.1, inside, member.2)),
  )
  apart_all (clash.Roles r s) same = (
    λ all (f, g, e, e', one, other, in_r, in_s).
        All-contains (IsApart facts (clash.Roles r s)) part f all ((same f).1 (one, (e, e', in_r)))
        e e' in_r
        (subst (Contains facts) in_s other),
    λ avoids. All-from_contains (IsApart facts (clash.Roles r s)) part (λ f there e e' pair inside.
        avoids (f, role_fact s e e', e, e', ((same f).0 there).0, inside, pair, refl)),
  )

-- a clash is avoided where it is avoided with its sides exchanged
pub avoids_turned : (facts : List Fact) (m : Clash)
    → Avoids facts (turned_clash m) ↔ Avoids facts m
avoids_turned facts (clash.Concepts b c) = (
  λ avoids (f, g, e, one, other, in_b, in_c). avoids (g, f, e, other, one, in_c, in_b),
  λ avoids (f, g, e, one, other, in_c, in_b). avoids (g, f, e, other, one, in_b, in_c),
)
avoids_turned facts (clash.Roles r s) = (
  λ avoids (f, g, e, e', one, other, in_r, in_s). avoids (g, f, e, e', other, one, in_s, in_r),
  λ avoids (f, g, e, e', one, other, in_s, in_r). avoids (g, f, e, e', other, one, in_r, in_s),
)
