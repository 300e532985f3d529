-- Which predicates are looked at.
use Rattle.std.specs.Prelude.{◌≡◌, ◌↔◌, ◌⊎◌, ℕ, Bool, true, Some, List, slice_get}
use Rattle.std.specs.List.{All, Contains}
use Rattle.dl_syntax.specs.declared.names.ConceptId.{ConceptId}
use Rattle.dl_syntax.specs.declared.names.RoleId.{RoleId}
use Rattle.dl_syntax.specs.declared.facts.Fact.{Fact}
use Rattle.dl_syntax.specs.declared.facts.Fact.TheVariants as fact
use Rattle.dl_syntax.specs.declared.ontology.Inclusion.{Inclusion}
use Rattle.dl_syntax.specs.declared.queries.Atom.{Atom}
use Rattle.dl_syntax.specs.declared.queries.Atom.TheVariants as atom
use Rattle.dl_syntax.specs.declared.queries.Cq.{Cq}
use Rattle.dl_syntax.specs.Saturation.{IsSaturation}
use Rattle.saturate.specs.declared.sight.Sight.{Sight}

-- the number is marked
abbrev pub IsMarked : List Bool → ℕ → Type 0
IsMarked marks number = slice_get marks number ≡ Some true

-- what is marked stays so
abbrev pub KeepsMarks : List Bool → List Bool → Type 0
KeepsMarks old new = (number : ℕ) → IsMarked old number → IsMarked new number

abbrev pub SeesConcept : Sight → ConceptId → Type 0
SeesConcept sight c = (sight.all ≡ true) ⊎ IsMarked sight.concepts.items c.0

abbrev pub SeesRole : Sight → RoleId → Type 0
SeesRole sight p = (sight.all ≡ true) ⊎ IsMarked sight.roles.items p.0

-- the fact's predicate is looked at
abbrev pub Sees : Sight → Fact → Type 0
Sees sight (fact.Concept c e) = SeesConcept sight c
Sees sight (fact.Role p e e') = SeesRole sight p

-- the atom's is
abbrev pub SeesAtom : Sight → Atom → Type 0
SeesAtom sight (atom.Concept c x) = SeesConcept sight c
SeesAtom sight (atom.Role p x y) = SeesRole sight p

-- those of a query's atoms are
abbrev pub SeesQuery : Sight → Cq → Type 0
SeesQuery sight q = All (SeesAtom sight) q.body

abbrev pub SeesUnion : Sight → List Cq → Type 0
SeesUnion sight union = All (SeesQuery sight) union

-- what was looked at still is
pub record KeepsSight (old new : Sight) : Type 0 where
  pub concepts : (c : ConceptId) → SeesConcept old c → SeesConcept new c
  pub roles : (p : RoleId) → SeesRole old p → SeesRole new p

-- the property holds of the fact, which is looked at
abbrev pub Seen : Sight → (Fact → Type 0) → Fact → Type 0
Seen sight P f = P f × Sees sight f

-- exactly what is looked at of a saturation
abbrev pub IsSeenSaturation : List Inclusion → Sight → List Fact → List Fact → Type 0
IsSeenSaturation inclusions sight snapshot facts =
    (whole : List Fact) × IsSaturation inclusions snapshot whole
    × ((f : Fact) → Contains facts f ↔ Seen sight (Contains whole) f)
