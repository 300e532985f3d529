-- Runs that mark the ranks of rows.
use Rattle.std.specs.Prelude.{◌≡◌, ℕ, ◌+◌, ◌-◌, ◌*◌, ◌<◌, ◌≤◌, ◌^◌, List, length, map}
use Rattle.std.specs.Prelude.{slice_index_or}
use Rattle.std.specs.List.{Contains}
use Rattle.dl_syntax.specs.declared.names.IndId.{IndId}
use Rattle.dl_syntax.specs.Rows.{IsBelow}
use Rattle.answer_tables.specs.declared.run.Run.{Run}
use Rattle.answer_tables.specs.Runs.{link_at, end_from, RiseFrom, NamedBelow}
use Rattle.answer_tables.specs.Tuples.{IsTuple, number}
use Rattle.answer_tables.specs.Spreading.{weighed, reach}

-- the tuple's individuals at the places
abbrev pub part_on : List ℕ → List IndId → List IndId
part_on places tuple = map (λ p. slice_index_or tuple p (record { 0 = 0 })) places

-- the runs after 0 for the ranks from their end up to a rank
pub record Cleared (old : List Run) (rank : ℕ) (new : List Run) : Type 0 where
  pub rise : RiseFrom 0 new
  pub ends : end_from 0 new ≡ rank
  pub before : (n : ℕ) → n < end_from 0 old → link_at new n ≡ link_at old n
  pub since : (n : ℕ) → end_from 0 old ≤ n → n < rank → link_at new n ≡ 0
  pub named : NamedBelow 2 old → NamedBelow 2 new

-- up to their end the runs have 1 at the ranks of the rows and 0 at the others
pub record AreMarked (slots arity : ℕ) (rows : List (List IndId)) (runs : List Run) (end : ℕ) : Type
    0 where
  pub rise : RiseFrom 0 runs
  pub ends : end_from 0 runs ≡ end
  pub named : NamedBelow 2 runs
  pub held : (row : List IndId) → IsTuple slots arity row → number slots row < end
      → Contains rows row → link_at runs (number slots row) ≡ 1
  pub others : (row : List IndId) → IsTuple slots arity row → number slots row < end
      → ¬ Contains rows row → link_at runs (number slots row) ≡ 0

-- the rows so far are marked, and what is above them all is at the runs' end or above
pub record Marks (slots arity : ℕ) (rows : List (List IndId)) (runs : List Run) (end : ℕ) : Type 0
  where
    pub marked : AreMarked slots arity rows runs end
    pub within : end ≤ slots ^ arity
    pub before : (row : List IndId) → IsTuple slots arity row → Contains rows row
        → number slots row < end
    pub next : (row : List IndId) → IsTuple slots arity row
        → ((x : List IndId) → Contains rows x → IsBelow x row) → end ≤ number slots row

-- the runs have 1 at the ranks of the tuples whose part is one of the rows, and 0 at the others
pub record MarksParts (slots arity : ℕ) (places : List ℕ) (rows : List (List IndId))
    (runs : List Run) : Type 0 where
  pub rise : RiseFrom 0 runs
  pub ends : end_from 0 runs ≡ slots ^ arity
  pub named : NamedBelow 2 runs
  pub held : (tuple : List IndId) → IsTuple slots arity tuple → Contains rows (part_on places tuple)
      → link_at runs (number slots tuple) ≡ 1
  pub others : (tuple : List IndId) → IsTuple slots arity tuple
      → ¬ Contains rows (part_on places tuple) → link_at runs (number slots tuple) ≡ 0

-- the weights by which a tuple's digits tell the number of its part, times a power
pub record WeighParts (slots arity : ℕ) (places : List ℕ) (power : ℕ) (weights : List ℕ) : Type 0
  where
    pub long : length weights ≡ arity
    pub sum : (tuple : List IndId) → IsTuple slots arity tuple
        → weighed (slots - 1) weights tuple ≡ number slots (part_on places tuple) * power
    pub most : reach (slots - 1) weights + power ≡ slots ^ length places * power
