-- The facts over individuals that follow from a snapshot.
use Rattle.std.specs.Prelude.{ℕ, List, length, ◌↔◌}
use Rattle.std.specs.List.{All, Contains}
use Rattle.dl_syntax.specs.declared.names.IndId.{IndId}
use Rattle.dl_syntax.specs.declared.facts.Fact.{Fact}
use Rattle.dl_syntax.specs.declared.ontology.Basic.TheVariants as basic
use Rattle.dl_syntax.specs.declared.ontology.Inclusion.{Inclusion}
use Rattle.dl_syntax.specs.declared.ontology.Inclusion.TheVariants as inclusion
use Rattle.dl_syntax.specs.declared.ontology.Clash.{Clash}
use Rattle.dl_syntax.specs.declared.queries.Cq.{Cq}
use Rattle.dl_syntax.specs.Facts.{HasNoNull}
use Rattle.dl_syntax.specs.Declaring.{IsDeclaredFact}
use Rattle.dl_syntax.specs.Ontology.{Declared}
use Rattle.dl_syntax.specs.Chase.{Follows, IsConsistent}
use Rattle.dl_syntax.specs.Match.{Certain}
use Rattle.dl_syntax.specs.Encode.{IsOverOntology, IsReached, IsMet}

-- exactly the facts over individuals that some run holds
pub record IsSaturation (inclusions : List Inclusion) (snapshot facts : List Fact) : Type 0 where
  pub sound : (f : Fact) → Contains facts f → HasNoNull f × IsReached inclusions snapshot f
  pub complete : (f : Fact) → HasNoNull f → IsReached inclusions snapshot f → Contains facts f

-- exactly the facts over individuals, concepts and roles of the ontology that some run of the
-- snapshot has
pub record IsSaturated (o : Declared) (snapshot facts : List Fact) : Type 0 where
  pub sound : (f : Fact) → Contains facts f
      → HasNoNull f × IsDeclaredFact (length o.concepts) (length o.roles) f
      × IsReached o.inclusions snapshot f
  pub complete : (f : Fact) → HasNoNull f → IsDeclaredFact (length o.concepts) (length o.roles) f
      → IsReached o.inclusions snapshot f → Contains facts f

-- the inclusion makes nulls
abbrev pub MakesNulls : Inclusion → Type 0
MakesNulls (inclusion.Concepts b (basic.Concept c)) = ⊥
MakesNulls (inclusion.Concepts b (basic.Some r)) = Unit {0}
MakesNulls (inclusion.Roles r s) = ⊥
MakesNulls (inclusion.Qualified b r c) = Unit {0}

-- the facts hold all that the inclusions that make no nulls make from them
abbrev pub IsClosed : List Inclusion → List Fact → Type 0
IsClosed inclusions facts =
    (i : Inclusion) (f g : Fact) (place : ℕ) → Contains inclusions i → (¬ MakesNulls i) →
    Contains facts f → Follows i f g place → Contains facts g

-- saturated facts are closed
abbrev pub SaturationIsClosed : Type 0
SaturationIsClosed =
    (inclusions : List Inclusion) (snapshot facts : List Fact) →
    IsSaturation inclusions snapshot facts → IsClosed inclusions facts

-- over what is declared, a saturation is over what is declared
abbrev pub SaturationIsDeclared : Type 0
SaturationIsDeclared =
    (o : Declared) (snapshot facts : List Fact) →
    IsOverOntology o snapshot → IsSaturation o.inclusions snapshot facts →
    IsOverOntology o facts × IsSaturated o snapshot facts

-- a snapshot without nulls and its saturation have the same certain answers
abbrev pub SaturationKeepsAnswers : Type 0
SaturationKeepsAnswers =
    (inclusions : List Inclusion) (q : Cq) (snapshot facts : List Fact) (row : List IndId) →
    All HasNoNull snapshot → IsSaturation inclusions snapshot facts →
    Certain inclusions q snapshot row ↔ Certain inclusions q facts row

-- they meet the same clashes
abbrev pub SaturationKeepsClashes : Type 0
SaturationKeepsClashes =
    (inclusions : List Inclusion) (m : Clash) (snapshot facts : List Fact) →
    All HasNoNull snapshot → IsSaturation inclusions snapshot facts →
    IsMet inclusions snapshot m ↔ IsMet inclusions facts m

-- so both are consistent or neither is
abbrev pub SaturationKeepsConsistency : Type 0
SaturationKeepsConsistency =
    (inclusions : List Inclusion) (clashes : List Clash) (snapshot facts : List Fact) →
    All HasNoNull snapshot → IsSaturation inclusions snapshot facts →
    IsConsistent inclusions clashes snapshot ↔ IsConsistent inclusions clashes facts
