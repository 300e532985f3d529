-- What a list gains.
use Rattle.std.specs.Prelude.{◌≡◌, ◌⊎◌, ℕ, ◌<◌, ◌++◌, List, [], ◌∷◌, length, Some, slice_get}
use Rattle.std.specs.List.{All, Contains}
use Rattle.dl_syntax.specs.declared.ontology.Inclusion.{Inclusion}
use Rattle.dl_syntax.specs.declared.queries.Cq.{Cq}
use Rattle.query_unify.specs.Reach.{Replaces, Reduces}
use Rattle.dl_syntax.specs.Saturation.{MakesNulls}
use Rattle.perfect_ref.specs.Plain.{IsPlain}

-- the new list is the old one followed by exactly what the property holds of, in some order
pub record Gains (P : Cq → Type 0) (old new : List Cq) : Type 0 where
  pub added : List Cq
  pub order : new ≡ old ++ added
  pub sound : All P added
  pub complete : (q : Cq) → P q → Contains added q

-- the new list has what the old one has and exactly what the property holds of
pub record Absorbs (P : Cq → Type 0) (old new : List Cq) : Type 0 where
  pub kept : (q : Cq) → Contains old q → Contains new q
  pub sound : (q : Cq) → Contains new q → Contains old q ⊎ P q
  pub complete : (q : Cq) → P q → Contains new q

-- the property of some number below the bound
abbrev pub Somewhere : (ℕ → Cq → Type 0) → ℕ → Cq → Type 0
Somewhere R bound q = (place : ℕ) × (place < bound) × R place q

-- a replacement by one of the inclusions at the place leads from the first query to the second
abbrev pub IsReplacement : List Inclusion → Cq → ℕ → Cq → Type 0
IsReplacement inclusions q place q' = (i : Inclusion) × Contains inclusions i
    × Replaces i place q q'

-- so does one by an inclusion that makes nulls
abbrev pub IsNullReplacement : List Inclusion → Cq → ℕ → Cq → Type 0
IsNullReplacement inclusions q place q' = (i : Inclusion) × Contains inclusions i × MakesNulls i
    × Replaces i place q q'

-- a reduce of a pair of places with this second one
abbrev pub IsReductAt : Cq → ℕ → Cq → Type 0
IsReductAt q k q' = Somewhere (λ j. Reduces j k q) k q'

abbrev pub IsReduct : Cq → Cq → Type 0
IsReduct q q' = Somewhere (λ k. IsReductAt q k) (length q.body) q'

-- the second list has exactly those elements of the first that the property holds of, in their
-- order
pub data Filters (P : Cq → Type 0) : List Cq → List Cq → Type 0 where
  none : Filters P [] []
  keep : {q : Cq} {all some : List Cq} → P q → Filters P all some
      → Filters P (all ++ q ∷ []) (some ++ q ∷ [])
  leave : {q : Cq} {all some : List Cq} → (P q → ⊥) → Filters P all some
      → Filters P (all ++ q ∷ []) some

-- one of the queries is at the place, and a replacement by an inclusion that makes nulls leads from
-- it to one that names no hidden role
abbrev pub IsMadeAt : ℕ → List Inclusion → List Cq → ℕ → Cq → Type 0
IsMadeAt roles inclusions found place q' = (q : Cq) × (slice_get found place ≡ Some q)
    × Somewhere (IsNullReplacement inclusions q) (length q.body) q' × IsPlain roles q'

-- the list has exactly the first query, and what replacements by inclusions that make nulls make of
-- the found ones, where that names no hidden role
abbrev pub IsCoreOf : ℕ → List Inclusion → Cq → List Cq → List Cq → Type 0
IsCoreOf roles inclusions first found core =
    Absorbs (Somewhere (IsMadeAt roles inclusions found) (length found)) (first ∷ []) core
