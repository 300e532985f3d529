-- Lists that grow.
use Rattle.std.specs.Prelude.{◌⊎◌, List}
use Rattle.std.specs.List.{Contains}

-- the new list has what the old one has and exactly what the property holds of
pub record Absorbs {X : Type 0} (P : X → Type 0) (old new : List X) : Type 0 where
  pub kept : (x : X) → Contains old x → Contains new x
  pub sound : (x : X) → Contains new x → Contains old x ⊎ P x
  pub complete : (x : X) → P x → Contains new x
