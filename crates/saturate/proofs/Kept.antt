-- Nothing more follows from a saturation.
use Rattle.std.proofs.Common.{◌≡◌, Bool, true, false, List, [], refl, subst}
use Rattle.std.specs.List.{Contains}
use Rattle.dl_syntax.specs.declared.facts.Element.{Element}
use Rattle.dl_syntax.specs.declared.facts.Fact.{Fact}
use Rattle.dl_syntax.specs.declared.facts.Fact.TheVariants as fact
use Rattle.dl_syntax.specs.declared.ontology.Role.{Role}
use Rattle.dl_syntax.specs.declared.ontology.Basic.{Basic}
use Rattle.dl_syntax.specs.declared.ontology.Basic.TheVariants as basic
use Rattle.dl_syntax.specs.declared.ontology.Inclusion.{Inclusion}
use Rattle.dl_syntax.specs.Facts.{role_fact}
use Rattle.dl_syntax.specs.Chase.{start}
use Rattle.saturate.specs.Derived.{HasPair, given, included, turned, IsInBasic, member, first}
use Rattle.saturate.specs.Derived.{below, qualified, wider, wider_turned, inverse_of, IsDerived}
use Rattle.saturate.specs.Above.{forward}
use Rattle.saturate.specs.Laws.{SaturationIsWhole}
use Rattle.saturate.proofs.DerivedRuns.{derived_is_reached}
use Rattle.saturate.proofs.Implications.{directed, is_forward, is_backward}

-- what follows from what follows
module _ (incs : List Inclusion) (snapshot facts : List Fact) (each : (f : Fact) → Contains facts f
    → IsDerived incs snapshot f) where
  pair_again_at : (r : Role) (v : Bool) → r.inverse ≡ v → (a b : Element)
      → IsDerived incs snapshot (directed r v a b) → HasPair incs snapshot r a b
  pair_again_at r false is a b h =
      subst (λ (z : Role). HasPair incs snapshot z a b) (is_forward r is) h
  pair_again_at r true is a b h =
      subst (λ (z : Role). HasPair incs snapshot z a b) (is_backward r is)
      (turned (forward r.id.0) b a h)

  pair_again : (r : Role) (a b : Element) → HasPair incs facts r a b → HasPair incs snapshot r a b
  pair_again _ _ _ (given r a b there) =
      pair_again_at r r.inverse refl a b (each (role_fact r a b) there)
  pair_again _ _ _ (included r s a b listed h) = included r s a b listed (pair_again r a b h)
  pair_again _ _ _ (turned r a b h) = turned r a b (pair_again r a b h)

  basic_again : (b : Basic) (a : Element) → IsInBasic incs facts b a → IsInBasic incs snapshot b a
  basic_again _ _ (member c a there) = each (fact.Concept c a) there
  basic_again _ _ (first r a b h) = first r a b (pair_again r a b h)
  basic_again _ _ (below b c a listed h) = below b c a listed (basic_again b a h)
  basic_again _ _ (qualified b r c a listed h) = qualified b r c a listed (basic_again b a h)
  basic_again _ _ (wider r s a listed h) = wider r s a listed (basic_again (basic.Some r) a h)
  basic_again _ _ (wider_turned r s a listed h) =
      wider_turned r s a listed (basic_again (basic.Some (inverse_of r)) a h)

  pub derived_again : (f : Fact) → IsDerived incs facts f → IsDerived incs snapshot f
  derived_again (fact.Concept c a) h = basic_again (basic.Concept c) a h
  derived_again (fact.Role p a b) h = pair_again (forward p.0) a b h

pub saturation_is_whole : SaturationIsWhole
saturation_is_whole incs snapshot facts s = record {
  sound = λ f there. ((s.sound f there).0, (facts, ([], start), there));
  complete = λ f plain reached. s.complete f plain
      ((derived_is_reached incs snapshot f plain).1
      (derived_again incs snapshot facts each f
      ((derived_is_reached incs facts f plain).0 reached)));
}
  where
    each : (f : Fact) → Contains facts f → IsDerived incs snapshot f
    each f there = let known = s.sound f there in
        (derived_is_reached incs snapshot f known.0).0 known.1
