-- The number of a pair among those that came before.
use Rattle.std.specs.Prelude.{◌≡◌, ◌⊎◌, ℕ, ◌<◌, List, [], ◌∷◌, ◌++◌, length}
use Rattle.answer_tables.specs.declared.align.Joint.{Joint}
use Rattle.answer_tables.specs.Joint.{joint_at}

-- the joint's numbers stand at the number, and it is new only where it went last
pub record Numbered (old : List Joint) (joint : Joint) (new : List Joint) (number : ℕ) : Type 0
  where
    pub within : number < length new
    pub first : (joint_at new number).first ≡ joint.first
    pub second : (joint_at new number).second ≡ joint.second
    pub kept : (new ≡ old) ⊎ ((new ≡ old ++ joint ∷ []) × (number ≡ length old))
