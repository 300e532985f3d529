-- What stands above a basic concept: whatever finitely many inclusions lead to, one after the
-- other.
use Rattle.std.specs.Prelude.{◌≡◌, ◌↔◌, ◌⊎◌, ◌<◌, ℕ, true, false, Option, Some, None, List, [], ◌∷◌}
use Rattle.std.specs.Prelude.{Vec, if◌then◌else◌}
use Rattle.std.specs.Global.{Global}
use Rattle.std.specs.List.{Contains, flat_map}
use Rattle.dl_syntax.specs.declared.names.ConceptId.{ConceptId}
use Rattle.dl_syntax.specs.declared.ontology.Role.{Role}
use Rattle.dl_syntax.specs.declared.ontology.Basic.{Basic}
use Rattle.dl_syntax.specs.declared.ontology.Basic.TheVariants as basic
use Rattle.dl_syntax.specs.declared.ontology.Inclusion.{Inclusion}
use Rattle.dl_syntax.specs.declared.ontology.Inclusion.TheVariants as inclusion
use Rattle.worklist.specs.Reach.{Reaches}
use Rattle.saturate.specs.declared.graph.Arrow.{Arrow}
use Rattle.saturate.specs.declared.graph.Scope.{Scope}
use Rattle.saturate.specs.declared.graph.Scope.TheVariants as scope
use Rattle.saturate.specs.declared.graph.Place.{Place}
use Rattle.saturate.specs.declared.graph.Place.TheVariants as place
use Rattle.saturate.specs.Derived.{inverse_of}
use Rattle.worklist.specs.Lists.{listed}

abbrev pub arrow : Basic → Basic → Arrow
arrow b c = record { from = b; to = c }

-- a role inclusion, told of what stands first in a pair and of what stands second
abbrev pub role_arrows : Role → Role → List Arrow
role_arrows r s = arrow (basic.Some r) (basic.Some s)
    ∷ arrow (basic.Some (inverse_of r)) (basic.Some (inverse_of s)) ∷ []

-- what the inclusion puts directly above what, of its individuals alone
abbrev pub arrows_of : Scope → Inclusion → List Arrow
arrows_of scope.Pairs (inclusion.Concepts b c) = []
arrows_of scope.Pairs (inclusion.Roles r s) = role_arrows r s
arrows_of scope.Pairs (inclusion.Qualified b r c) = []
arrows_of scope.Elements (inclusion.Concepts b c) = arrow b c ∷ []
arrows_of scope.Elements (inclusion.Roles r s) = role_arrows r s
arrows_of scope.Elements (inclusion.Qualified b r c) = arrow b (basic.Some r) ∷ []

abbrev pub all_arrows : Scope → List Inclusion → List Arrow
all_arrows kind inclusions = flat_map (arrows_of kind) inclusions

-- an arrow leads from the first to the second
abbrev pub Along : List Arrow → Basic → Basic → Type 0
Along arrows b c = Contains arrows (arrow b c)

-- each pair of the first basic role is one of the second
abbrev pub IsAboveRole : List Inclusion → Role → Role → Type 0
IsAboveRole inclusions r s =
    Reaches (Along (all_arrows scope.Pairs inclusions)) (basic.Some r) (basic.Some s)

-- each element of the first basic concept is in the second
abbrev pub IsAbove : List Inclusion → Basic → Basic → Type 0
IsAbove inclusions b c = Reaches (Along (all_arrows scope.Elements inclusions)) b c

-- the role of the number, and its inverse
abbrev pub forward : ℕ → Role
forward n = record { id = record { 0 = n }; inverse = false }

abbrev pub backward : ℕ → Role
backward n = record { id = record { 0 = n }; inverse = true }

-- the basic concept of the number
abbrev pub source_of : Place → ℕ → Basic
source_of place.Member n = basic.Concept (record { 0 = n })
source_of place.First n = basic.Some (forward n)
source_of place.Second n = basic.Some (backward n)

-- its number, where it is of the kind
abbrev pub number_in : Place → Basic → Option ℕ
number_in place.Member (basic.Concept c) = Some c.0
number_in place.Member (basic.Some r) = None
number_in place.First (basic.Concept c) = None
number_in place.First (basic.Some r) = if r.inverse then None else Some r.id.0
number_in place.Second (basic.Concept c) = None
number_in place.Second (basic.Some r) = if r.inverse then Some r.id.0 else None

-- each list has exactly what arrows lead to from the basic concept of its number
pub record IsIndex (kind : Place) (arrows : List Arrow) (lists : List (Vec Basic Global)) : Type 0
  where
    pub exactly : (k : ℕ) (c : Basic) → Contains (listed lists k) c
        ↔ Contains arrows (arrow (source_of kind k) c)

-- each list below the count has exactly the concepts above the basic concept of its number
abbrev pub HasConcepts : Place → List Arrow → ℕ → List (Vec ConceptId Global) → Type 0
HasConcepts kind arrows count table = (k : ℕ) → k < count → (c : ConceptId)
    → Contains (listed table k) c ↔ Reaches (Along arrows) (source_of kind k) (basic.Concept c)

-- each list below the count has exactly the basic roles above the role of its number
abbrev pub HasRoles : List Arrow → ℕ → List (Vec Role Global) → Type 0
HasRoles arrows count table = (k : ℕ) → k < count → (s : Role)
    → Contains (listed table k) s ↔ Reaches (Along arrows) (basic.Some (forward k)) (basic.Some s)

-- each list has the concepts above the basic concept of its number, and lacks at most that one
-- itself
pub record IsConceptTable (inclusions : List Inclusion) (kind : Place)
    (table : List (Vec ConceptId Global)) : Type 0 where
  pub sound : (k : ℕ) (c : ConceptId) → Contains (listed table k) c
      → IsAbove inclusions (source_of kind k) (basic.Concept c)
  pub complete : (k : ℕ) (c : ConceptId) → IsAbove inclusions (source_of kind k) (basic.Concept c)
      → (source_of kind k ≡ basic.Concept c) ⊎ Contains (listed table k) c

-- likewise of roles
pub record IsRoleTable (inclusions : List Inclusion) (table : List (Vec Role Global)) : Type 0 where
  pub sound : (k : ℕ) (s : Role) → Contains (listed table k) s
      → IsAboveRole inclusions (forward k) s
  pub complete : (k : ℕ) (s : Role) → IsAboveRole inclusions (forward k) s
      → (forward k ≡ s) ⊎ Contains (listed table k) s

-- exactly what arrows lead to from the basic concept
abbrev pub IsNext : List Arrow → Basic → List Basic → Type 0
IsNext arrows b next = (c : Basic) → Contains next c ↔ Contains arrows (arrow b c)

-- exactly the concepts among the basic concepts
abbrev pub ConceptsOf : List Basic → List ConceptId → Type 0
ConceptsOf basics concepts = (c : ConceptId)
    → Contains concepts c ↔ Contains basics (basic.Concept c)

-- exactly the basic roles among them
abbrev pub RolesOf : List Basic → List Role → Type 0
RolesOf basics roles = (r : Role) → Contains roles r ↔ Contains basics (basic.Some r)
