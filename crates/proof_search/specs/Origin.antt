-- Which inclusion of an ontology one of its encoding stands for.
use Rattle.std.specs.Prelude.{◌≡◌, ◌⊎◌, ℕ, List, Some}
use Rattle.std.specs.List.{Contains}
use Rattle.dl_syntax.specs.declared.names.ConceptId.{ConceptId}
use Rattle.dl_syntax.specs.declared.ontology.Basic.{Basic}
use Rattle.dl_syntax.specs.declared.ontology.Basic.TheVariants as basic
use Rattle.dl_syntax.specs.declared.ontology.Role.{Role}
use Rattle.dl_syntax.specs.declared.ontology.Inclusion.{Inclusion}
use Rattle.dl_syntax.specs.declared.ontology.Inclusion.TheVariants as inclusion
use Rattle.dl_syntax.specs.Encode.{hidden}
use Rattle.dl_syntax.specs.Growing.{inclusion_of}
use Rattle.dl_syntax.proofs.HiddenRoles.{Hides}

-- the inclusion makes a hidden role's fact where the qualified one applies
pub record Starts (roles : ℕ) (inclusions : List Inclusion) (i j : Inclusion) : Type 0 where
  pub number : ℕ
  pub below : Basic
  pub role : Role
  pub concept : ConceptId
  pub hides : Hides roles inclusions number below role concept
  pub is : i ≡ inclusion.Concepts below (basic.Some (hidden number))
  pub stands : j ≡ inclusion.Qualified below role concept

-- it is the known one, or begins its encoding by the hidden role of the number
abbrev pub StandsAt : ℕ → Inclusion → Inclusion → Type 0
StandsAt number i (inclusion.Qualified b r c) =
    (i ≡ inclusion.Concepts b (basic.Some (hidden number))) ⊎ (i ≡ inclusion.Qualified b r c)
StandsAt number i (inclusion.Concepts b c) = i ≡ inclusion.Concepts b c
StandsAt number i (inclusion.Roles r s) = i ≡ inclusion.Roles r s

-- it is the other one, or makes a hidden role's fact where that one applies
abbrev pub StandsFor : ℕ → List Inclusion → Inclusion → Inclusion → Type 0
StandsFor roles inclusions i j = (j ≡ i) ⊎ Starts roles inclusions i j

-- it stands for the inclusion of the number
abbrev pub StandsForNumber : ℕ → List Inclusion → Inclusion → ℕ → Type 0
StandsForNumber roles inclusions i number =
    (j : Inclusion) × (inclusion_of inclusions number ≡ Some j) × StandsFor roles inclusions i j

-- it stands for none
pub record StandsForNone (roles : ℕ) (inclusions : List Inclusion) (i : Inclusion) : Type 0 where
  pub not_listed : Contains inclusions i → ⊥
  pub starts_none : (j : Inclusion) → Starts roles inclusions i j → ⊥
