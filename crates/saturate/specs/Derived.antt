-- What follows from facts under inclusions, told without nulls: membership in basic concepts and in
-- basic roles.
use Rattle.std.specs.Prelude.{◌↔◌, List, false, not}
use Rattle.std.specs.List.{Contains}
use Rattle.dl_syntax.specs.declared.names.ConceptId.{ConceptId}
use Rattle.dl_syntax.specs.declared.facts.Element.{Element}
use Rattle.dl_syntax.specs.declared.facts.Fact.{Fact}
use Rattle.dl_syntax.specs.declared.facts.Fact.TheVariants as fact
use Rattle.dl_syntax.specs.declared.ontology.Role.{Role}
use Rattle.dl_syntax.specs.declared.ontology.Basic.{Basic}
use Rattle.dl_syntax.specs.declared.ontology.Basic.TheVariants as basic
use Rattle.dl_syntax.specs.declared.ontology.Inclusion.{Inclusion}
use Rattle.dl_syntax.specs.declared.ontology.Inclusion.TheVariants as inclusion
use Rattle.dl_syntax.specs.Facts.{role_fact, HasNoNull}
use Rattle.dl_syntax.specs.Encode.{IsReached}

-- the inverse of a basic role
abbrev pub inverse_of : Role → Role
inverse_of r = record { id = r.id; inverse = not r.inverse }

-- the elements are a pair of the basic role
pub data HasPair (inclusions : List Inclusion) (facts : List Fact) : Role → Element → Element
    → Type 0 where
  given : (r : Role) (a b : Element) → Contains facts (role_fact r a b)
      → HasPair inclusions facts r a b
  included : (r s : Role) (a b : Element) → Contains inclusions (inclusion.Roles r s)
      → HasPair inclusions facts r a b → HasPair inclusions facts s a b
  turned : (r : Role) (a b : Element) → HasPair inclusions facts r a b
      → HasPair inclusions facts (inverse_of r) b a

-- the element is in the basic concept
pub data IsInBasic (inclusions : List Inclusion) (facts : List Fact) : Basic → Element
    → Type 0 where
  member : (c : ConceptId) (a : Element) → Contains facts (fact.Concept c a)
      → IsInBasic inclusions facts (basic.Concept c) a
  first : (r : Role) (a b : Element) → HasPair inclusions facts r a b
      → IsInBasic inclusions facts (basic.Some r) a
  below : (b c : Basic) (a : Element) → Contains inclusions (inclusion.Concepts b c)
      → IsInBasic inclusions facts b a → IsInBasic inclusions facts c a
  qualified : (b : Basic) (r : Role) (c : ConceptId) (a : Element)
      → Contains inclusions (inclusion.Qualified b r c) → IsInBasic inclusions facts b a
      → IsInBasic inclusions facts (basic.Some r) a
  wider : (r s : Role) (a : Element) → Contains inclusions (inclusion.Roles r s)
      → IsInBasic inclusions facts (basic.Some r) a → IsInBasic inclusions facts (basic.Some s) a
  wider_turned : (r s : Role) (a : Element) → Contains inclusions (inclusion.Roles r s)
      → IsInBasic inclusions facts (basic.Some (inverse_of r)) a
      → IsInBasic inclusions facts (basic.Some (inverse_of s)) a

-- the fact says what is derived
abbrev pub IsDerived : List Inclusion → List Fact → Fact → Type 0
IsDerived inclusions facts (fact.Concept c a) = IsInBasic inclusions facts (basic.Concept c) a
IsDerived inclusions facts (fact.Role p a b) =
    HasPair inclusions facts (record { id = p; inverse = false }) a b

-- what is derived of individuals is what some run holds of them
abbrev pub DerivedIsReached : Type 0
DerivedIsReached = (inclusions : List Inclusion) (facts : List Fact) (f : Fact) → HasNoNull f
    → IsReached inclusions facts f ↔ IsDerived inclusions facts f
