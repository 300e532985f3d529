-- Finite models: finite lists of facts that hold what an ontology says, told without the chase.
-- The right sides are those of DL-Lite_R, after Calvanese, De Giacomo, Lembo, Lenzerini and Rosati
-- 2007.
use Rattle.std.specs.Prelude.{◌≡◌, List}
use Rattle.std.specs.List.{All, Contains}
use Rattle.dl_syntax.specs.declared.names.ConceptId.{ConceptId}
use Rattle.dl_syntax.specs.declared.facts.Element.{Element}
use Rattle.dl_syntax.specs.declared.facts.Fact.{Fact}
use Rattle.dl_syntax.specs.declared.facts.Fact.TheVariants as fact
use Rattle.dl_syntax.specs.declared.ontology.Role.{Role}
use Rattle.dl_syntax.specs.declared.ontology.Basic.{Basic}
use Rattle.dl_syntax.specs.declared.ontology.Inclusion.{Inclusion}
use Rattle.dl_syntax.specs.declared.ontology.Inclusion.TheVariants as inclusion
use Rattle.dl_syntax.specs.declared.ontology.Clash.{Clash}
use Rattle.dl_syntax.specs.declared.ontology.Clash.TheVariants as clash
use Rattle.dl_syntax.specs.Facts.{In, Pair, role_fact}
use Rattle.dl_syntax.specs.Chase.{Meets}

-- some fact puts the element into the basic concept
abbrev pub IsMember : List Fact → Basic → Element → Type 0
IsMember facts b e = (g : Fact) × Contains facts g × In b e g

-- some element has the pair and is in the concept
abbrev pub HasPartner : List Fact → Role → ConceptId → Element → Type 0
HasPartner facts r c e =
    (e' : Element) × Contains facts (role_fact r e e') × Contains facts (fact.Concept c e')

-- the fact makes a pair of the role whose second element is in the concept
abbrev pub ShowsPartner : List Fact → Role → ConceptId → Fact → Type 0
ShowsPartner facts r c f = (e e' : Element) × Pair r e e' f × Contains facts (fact.Concept c e')

-- the fact puts an element into the concept with which this one has a pair of the role
abbrev pub ShowsMember : List Fact → Role → ConceptId → Element → Fact → Type 0
ShowsMember facts r c e f = (e' : Element) × (f ≡ fact.Concept c e')
    × Contains facts (role_fact r e e')

-- wherever the fact makes the left side true, the facts hold the right side
abbrev pub Keeps : List Fact → Inclusion → Fact → Type 0
Keeps facts (inclusion.Concepts b c) f = (e : Element) → In b e f → IsMember facts c e
Keeps facts (inclusion.Roles r s) f = (e e' : Element) → Pair r e e' f
    → Contains facts (role_fact s e e')
Keeps facts (inclusion.Qualified b r c) f = (e : Element) → In b e f → HasPartner facts r c e

-- each fact does
abbrev pub Satisfies : List Fact → Inclusion → Type 0
Satisfies facts i = All (Keeps facts i) facts

-- no element or pair is in both sides
abbrev pub Avoids : List Fact → Clash → Type 0
Avoids facts m = ¬ Meets m facts

-- the other side lacks whatever the fact puts into the first side
abbrev pub IsApart : List Fact → Clash → Fact → Type 0
IsApart facts (clash.Concepts b c) f = (e : Element) → In b e f → ¬ IsMember facts c e
IsApart facts (clash.Roles r s) f = (e e' : Element) → Pair r e e' f
    → ¬ Contains facts (role_fact s e e')

-- the facts hold those of the snapshot, and the right side wherever the left side of an inclusion
-- holds, and meet no clash
pub record IsFiniteModel (inclusions : List Inclusion) (clashes : List Clash)
    (snapshot facts : List Fact) : Type 0 where
  pub holds : All (Contains facts) snapshot
  pub satisfies : All (Satisfies facts) inclusions
  pub avoids : All (Avoids facts) clashes
