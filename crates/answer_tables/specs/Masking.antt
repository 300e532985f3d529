-- Numbers that are hidden at the ranks where other runs have a usual number.
use Rattle.std.specs.Prelude.{◌≡◌, ◌≢◌, ℕ, ◌<◌, ◌≤◌, List}
use Rattle.answer_tables.specs.declared.run.Run.{Run}
use Rattle.answer_tables.specs.declared.align.Joint.{Joint}
use Rattle.answer_tables.specs.Runs.{link_at, end_from, RiseFrom}
use Rattle.answer_tables.specs.Joint.{IsAligned}

-- the runs after the numbers of others for the ranks from their end up to a rank
pub record Copied (from old : List Run) (end : ℕ) (new : List Run) : Type 0 where
  pub rise : RiseFrom 0 new
  pub ends : end_from 0 new ≡ end
  pub before : (n : ℕ) → n < end_from 0 old → link_at new n ≡ link_at old n
  pub since : (n : ℕ) → end_from 0 old ≤ n → n < end → link_at new n ≡ link_at from n

-- up to a rank the runs have 0 where the second ones have the usual number, and the first ones'
-- numbers elsewhere
pub record IsMasked (a b : List Run) (usual end : ℕ) (new : List Run) : Type 0 where
  pub rise : RiseFrom 0 new
  pub ends : end_from 0 new ≡ end
  pub hidden : (n : ℕ) → n < end → link_at b n ≡ usual → link_at new n ≡ 0
  pub shown : (n : ℕ) → n < end → link_at b n ≢ usual → link_at new n ≡ link_at a n

-- the second runs are aligned with the first ones' numbers where the second number isn't the usual
-- one
pub record IsMaskedAligned (a b : List Run) (usual : ℕ) (runs : List Run)
    (joints : List Joint) : Type 0 where
  pub masked : List Run
  pub is : IsMasked a b usual (end_from 0 a) masked
  pub aligned : IsAligned masked b runs joints
