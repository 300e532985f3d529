-- Two lists of runs at once.
use Rattle.std.specs.Prelude.{◌≡◌, ℕ, ◌<◌, List, length, slice_index_or}
use Rattle.answer_tables.specs.declared.run.Run.{Run}
use Rattle.answer_tables.specs.declared.align.Joint.{Joint}
use Rattle.answer_tables.specs.Runs.{link_at, end_from, RiseFrom, NamedBelow}

abbrev pub joint_at : List Joint → ℕ → Joint
joint_at joints i = slice_index_or joints i (record { first = 0; second = 0; rank = 0 })

-- the runs number the pairs of the two lists' numbers, each of which stands at a rank of its own
pub record IsAligned (a b runs : List Run) (joints : List Joint) : Type 0 where
  pub rise : RiseFrom 0 runs
  pub ends : end_from 0 runs ≡ end_from 0 a
  pub named : NamedBelow (length joints) runs
  pub within : (i : ℕ) → i < length joints → (joint_at joints i).rank < end_from 0 a
  pub used : (i : ℕ) → i < length joints → link_at runs (joint_at joints i).rank ≡ i
  pub first : (n : ℕ) → n < end_from 0 a → (joint_at joints (link_at runs n)).first ≡ link_at a n
  pub second : (n : ℕ) → n < end_from 0 a → (joint_at joints (link_at runs n)).second ≡ link_at b n
