-- Antichains that decide a combination, and antichains that change nothing in one.
use Rattle.std.specs.Prelude.{◌≡◌, ℕ, ◌<◌, Bool, List, [], length, slice_index_or}
use Rattle.answer_tables.specs.declared.align.Joint.{Joint}
use Rattle.answer_tables.specs.Joint.{joint_at}
use Rattle.answer_tables.specs.Combining.{Combines, AreCombinedWith}

-- what is a combination of any antichain with this one is the combination of every antichain with
-- it
abbrev pub IsDeciding : (Bool → Bool → Bool) → List ℕ → Type 0
IsDeciding test antichain = (a b combined : List ℕ) → Combines test a antichain combined
    → Combines test b antichain combined

-- each of the antichains is its own combination with this one
abbrev pub IsNeutral : (Bool → Bool → Bool) → List (List ℕ) → List ℕ → Type 0
IsNeutral test antichains antichain = AreCombinedWith test antichains antichain antichains

-- the link of each joint is the one that its first number tells
abbrev pub AreFirsts : List (List ℕ) → List Joint → List (List ℕ) → Type 0
AreFirsts a joints links = (i : ℕ) → i < length joints
    → slice_index_or links i [] ≡ slice_index_or a (joint_at joints i).first []
