-- Inclusions by what stands on their right side.
use Rattle.std.specs.Prelude.{◌≡◌, ◌↔◌, ℕ, Option, Some, None, List, Vec}
use Rattle.std.specs.Global.{Global}
use Rattle.std.specs.List.{All, Contains}
use Rattle.dl_syntax.specs.declared.ontology.Basic.TheVariants as basic
use Rattle.dl_syntax.specs.declared.ontology.Inclusion.{Inclusion}
use Rattle.dl_syntax.specs.declared.ontology.Inclusion.TheVariants as inclusion
use Rattle.dl_syntax.specs.declared.queries.Atom.{Atom}
use Rattle.dl_syntax.specs.declared.queries.Atom.TheVariants as atom
use Rattle.dl_syntax.specs.Encode.{IsUnqualified}
use Rattle.dl_syntax.specs.Saturation.{MakesNulls}
use Rattle.worklist.specs.Lists.{listed}
use Rattle.perfect_ref.specs.declared.rules.Side.{Side}
use Rattle.perfect_ref.specs.declared.rules.Side.TheVariants as side

-- the number of the concept or role on the right, where what stands there is of the kind
abbrev pub number_on : Side → Inclusion → Option ℕ
number_on side.Concept (inclusion.Concepts b (basic.Concept c)) = Some c.0
number_on side.Exists (inclusion.Concepts b (basic.Some r)) = Some r.id.0
number_on side.Role (inclusion.Roles r s) = Some s.id.0
number_on kind i = None

-- each list has exactly the inclusions with its number on the right
pub record IsIndex (kind : Side) (inclusions : List Inclusion)
    (lists : List (Vec Inclusion Global)) : Type 0 where
  pub exactly : (k : ℕ) (i : Inclusion)
      → Contains (listed lists k) i ↔ (Contains inclusions i × (number_on kind i ≡ Some k))

-- the inclusion has the atom's concept or role on its right side, and makes no null
abbrev pub IsFor : Inclusion → Atom → Type 0
IsFor i (atom.Concept c x) = number_on side.Concept i ≡ Some c.0
IsFor i (atom.Role p x y) = number_on side.Role i ≡ Some p.0

-- the inclusion makes a null that has the atom's role
abbrev pub MakesFor : Inclusion → Atom → Type 0
MakesFor i (atom.Concept c x) = ⊥
MakesFor i (atom.Role p x y) = number_on side.Exists i ≡ Some p.0

-- all inclusions of the list that may let the atom become another, but for those that make nulls
pub record IsCandidates (inclusions : List Inclusion) (a : Atom) (list : List Inclusion) : Type 0
  where
    pub sound : All (Contains inclusions) list
    pub unqualified : All IsUnqualified list
    pub complete : (i : Inclusion) → Contains inclusions i → IsFor i a → Contains list i

-- those that make nulls
pub record IsNullMakers (inclusions : List Inclusion) (a : Atom) (list : List Inclusion) : Type 0
  where
    pub sound : All (Contains inclusions) list
    pub unqualified : All IsUnqualified list
    pub nulls : All MakesNulls list
    pub complete : (i : Inclusion) → Contains inclusions i → MakesFor i a → Contains list i
