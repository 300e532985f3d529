-- Numbers that are changed at few ranks.
use Rattle.std.specs.Prelude.{◌≡◌, ◌≢◌, ◌⊎◌, ℕ, ◌<◌, ◌≤◌, List, [], length, Some, slice_get}
use Rattle.std.specs.Prelude.{slice_index, slice_index_or}
use Rattle.formula_store.specs.Interned.{AreDistinct}
use Rattle.answer_tables.specs.declared.run.Run.{Run}
use Rattle.answer_tables.specs.declared.align.Joint.{Joint}
use Rattle.answer_tables.specs.Runs.{link_at}
use Rattle.answer_tables.specs.Joint.{joint_at}

-- the numbers from a rank up to another are the given one, and the others are as they were
pub record IsWritten (old : List ℕ) (start end number : ℕ) (new : List ℕ) : Type 0 where
  pub many : length new ≡ length old
  pub inside : (n : ℕ) → start ≤ n → n < end → slice_index new n ≡ number
  pub outside : (n : ℕ) → (n < start) ⊎ (end ≤ n) → slice_index new n ≡ slice_index old n

-- each link's place in a list that begins as before
pub record ArePlacesAfter (old : List (List ℕ)) (links : List (List ℕ)) (new : List (List ℕ))
    (places : List ℕ) : Type 0 where
  pub many : length places ≡ length links
  pub kept : (i : ℕ) (antichain : List ℕ) → slice_get old i ≡ Some antichain
      → slice_get new i ≡ Some antichain
  pub same : (i : ℕ) (d : List ℕ) → i < length links
      → slice_get new (slice_index places i) ≡ Some (slice_index_or links i d)

-- below a rank the numbers are the joints' own where the joint's second number isn't the usual one,
-- and elsewhere they are as they were
pub record IsPatched (old : List ℕ) (runs : List Run) (joints : List Joint) (usual : ℕ)
    (places : List ℕ) (end : ℕ) (new : List ℕ) : Type 0 where
  pub many : length new ≡ length old
  pub changed : (n : ℕ) → n < end → (joint_at joints (link_at runs n)).second ≢ usual
      → slice_index new n ≡ slice_index places (link_at runs n)
  pub kept : (n : ℕ) → (end ≤ n) ⊎ ((joint_at joints (link_at runs n)).second ≡ usual)
      → slice_index new n ≡ slice_index old n

-- the antichains are the links of the joints where the joint's second number isn't the usual one,
-- and elsewhere those that were there, and each of them is met
pub record IsChanged (own links : List (List ℕ)) (bytes : List ℕ) (runs : List Run)
    (joints : List Joint) (usual : ℕ) (once : List (List ℕ)) (new : List ℕ) : Type 0 where
  pub distinct : AreDistinct once
  pub many : length new ≡ length bytes
  pub used : (i : ℕ) → i < length once → (n : ℕ) × (n < length new) × (slice_index new n ≡ i)
  pub changed : (n : ℕ) → n < length bytes → (joint_at joints (link_at runs n)).second ≢ usual
      → slice_get once (slice_index new n) ≡ Some (slice_index_or links (link_at runs n) [])
  pub kept : (n : ℕ) → n < length bytes → (joint_at joints (link_at runs n)).second ≡ usual
      → slice_get once (slice_index new n) ≡ Some (slice_index_or own (slice_index bytes n) [])
