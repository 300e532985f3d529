-- The values of a table's nodes put in their places, tuple by tuple.
use Rattle.std.specs.Prelude.{◌≡◌, ◌⊎◌, ◌∷◌, ℕ, ◌<◌, ◌^◌, List, [], length, map, All}
use Rattle.std.specs.Prelude.{slice_index_or}
use Rattle.dl_syntax.specs.declared.names.IndId.{IndId}
use Rattle.antichains.specs.Sets.{holds}
use Rattle.antichains.specs.Antichain.{IsMinimal, values_at}
use Rattle.answer_tables.specs.declared.run.Run.{Run}
use Rattle.answer_tables.specs.declared.align.Joint.{Joint}
use Rattle.answer_tables.specs.Runs.{link_at, end_from, RiseFrom, NamedBelow}
use Rattle.answer_tables.specs.Joint.{joint_at}
use Rattle.answer_tables.specs.Tuples.{IsTuple, number}
use Rattle.answer_tables.specs.Table.{Antichains, at}

-- the antichain holds at no set or at every one
abbrev pub HasNoNode : List ℕ → Type 0
HasNoNode antichain = (antichain ≡ []) ⊎ (antichain ≡ 0 ∷ [])

-- the tables have one shape
abbrev pub HaveShape : ℕ → ℕ → List Antichains → Type 0
HaveShape slots arity tables = All (λ t. (t.slots ≡ slots) × (t.arity ≡ arity)) tables

-- each table's antichain at a tuple
abbrev pub antichains_at : List Antichains → List IndId → List (List ℕ)
antichains_at tables tuple = map (λ t. at t tuple) tables

-- the table's antichain with each node replaced by its value, at one tuple
abbrev pub Substitutes : Antichains → List Antichains → List IndId → List ℕ → Type 0
Substitutes table values tuple antichain =
    IsMinimal (λ v. holds (at table tuple) (values_at (antichains_at values tuple) v)) antichain

-- tuples with one number in the runs have one antichain in the table
abbrev pub Tells : ℕ → ℕ → List Run → Antichains → Type 0
Tells slots arity runs table = (t u : List IndId) → IsTuple slots arity t → IsTuple slots arity u
    → link_at runs (number slots t) ≡ link_at runs (number slots u) → at table t ≡ at table u

-- the runs tell the antichains of a table and of the values, and each number stands at a rank of
-- its own
pub record TellAll (slots arity : ℕ) (table : Antichains) (values : List Antichains)
    (runs : List Run) (joints : List Joint) : Type 0 where
  pub rise : RiseFrom 0 runs
  pub ends : end_from 0 runs ≡ slots ^ arity
  pub named : NamedBelow (length joints) runs
  pub within : (i : ℕ) → i < length joints → (joint_at joints i).rank < slots ^ arity
  pub used : (i : ℕ) → i < length joints → link_at runs (joint_at joints i).rank ≡ i
  pub table_told : Tells slots arity runs table
  pub values_told : All (Tells slots arity runs) values

-- the link of each joint is the substituted antichain of the tuple at its rank
pub record AreSubstituted (slots arity : ℕ) (table : Antichains) (values : List Antichains)
    (joints : List Joint) (links : List (List ℕ)) : Type 0 where
  pub many : length links ≡ length joints
  pub each : (i : ℕ) → i < length joints → (tuple : List IndId) → IsTuple slots arity tuple
      → number slots tuple ≡ (joint_at joints i).rank
      → Substitutes table values tuple (slice_index_or links i [])
