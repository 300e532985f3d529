-- What is found of a list of facts.
use Rattle.std.specs.Prelude.{◌≡◌, ℕ, ◌+◌, Some, List, take, slice_get}
use Rattle.std.specs.List.{All, Contains}
use Rattle.dl_syntax.specs.declared.facts.Fact.{Fact}
use Rattle.dl_syntax.specs.declared.ontology.Inclusion.{Inclusion}
use Rattle.dl_syntax.specs.declared.ontology.Clash.{Clash}
use Rattle.dl_syntax.specs.Ontology.{Declared}
use Rattle.model_audit.specs.FiniteModels.{Keeps, Satisfies, Avoids, IsFiniteModel}
use Rattle.model_audit.specs.First.{LacksFirst}
use Rattle.model_audit.specs.declared.examining.Finding.{Finding}
use Rattle.model_audit.specs.declared.examining.Finding.TheVariants.{
  Missing,
  Broken,
  Clash as Met,
  Model,
}

-- the first inclusion that the facts held don't satisfy, counted from 1, and the place of the first
-- fact of the list whose right side is missing
pub record IsBroken (inclusions : List Inclusion) (held facts : List Fact) (number place : ℕ) : Type
    0 where
  pub before : ℕ
  pub counted : number ≡ before + 1
  pub inclusion : Inclusion
  pub there : slice_get inclusions before ≡ Some inclusion
  pub earlier : All (Satisfies held) (take before inclusions)
  pub broken : LacksFirst (Keeps held inclusion) facts place

-- the first clash that the facts held meet, counted from 1
pub record IsMetFirst (clashes : List Clash) (held : List Fact) (number : ℕ) : Type 0 where
  pub before : ℕ
  pub counted : number ≡ before + 1
  pub met : LacksFirst (Avoids held) clashes before

-- what is found where these facts are held and those are listed
abbrev pub IsFoundIn : Declared → List Fact → List Fact → List Fact → Finding → Type 0
IsFoundIn o snapshot held facts (Missing place) = LacksFirst (Contains held) snapshot place
IsFoundIn o snapshot held facts (Broken inclusion fact) =
    All (Contains held) snapshot × IsBroken o.inclusions held facts inclusion fact
IsFoundIn o snapshot held facts (Met number) =
    All (Contains held) snapshot × All (Satisfies held) o.inclusions
    × IsMetFirst o.clashes held number
IsFoundIn o snapshot held facts Model = IsFiniteModel o.inclusions o.clashes snapshot held

-- what is found of the list
abbrev pub IsFound : Declared → List Fact → List Fact → Finding → Type 0
IsFound o snapshot facts finding = IsFoundIn o snapshot facts facts finding
