-- The ranks of a table told by weighed digits.
use Rattle.std.specs.Prelude.{◌≡◌, ℕ, zero, suc, ◌+◌, ◌*◌, ◌^◌, ◌<◌, ◌-◌, min, map, List, [], ◌∷◌}
use Rattle.std.specs.Prelude.{length}
use Rattle.dl_syntax.specs.declared.names.IndId.{IndId}
use Rattle.answer_tables.specs.declared.run.Run.{Run}
use Rattle.answer_tables.specs.Runs.{link_at, end_from, RiseFrom, NamedBelow}
use Rattle.answer_tables.specs.Tuples.{IsTuple, number}

-- the sum of the individuals, each at most a limit, by their weights
abbrev pub weighed : ℕ → List ℕ → List IndId → ℕ
weighed limit [] tuple = 0
weighed limit (w ∷ ws) [] = 0
weighed limit (w ∷ ws) (i ∷ tuple) = w * min i.0 limit + weighed limit ws tuple

-- the greatest such sum
abbrev pub reach : ℕ → List ℕ → ℕ
reach limit [] = 0
reach limit (w ∷ ws) = w * limit + reach limit ws

-- the ranks from one on have the numbers of the runs at the weighed sums, from one on
pub record Spread (runs : List Run) (weights : List ℕ) (slots limit old start : ℕ)
    (before after : List Run) : Type 0 where
  pub rise : RiseFrom 0 after
  pub ends : end_from 0 after ≡ start + slots ^ length weights
  pub kept : (n : ℕ) → n < start → link_at after n ≡ link_at before n
  pub each : (tuple : List IndId) → IsTuple slots (length weights) tuple
      → link_at after (start + number slots tuple)
      ≡ link_at runs (old + weighed limit weights tuple)
  pub named : (bound : ℕ) → NamedBelow bound runs → NamedBelow bound before → NamedBelow bound after

-- the weights of so many digits in a base
abbrev pub place_weights : ℕ → ℕ → List ℕ
place_weights slots zero = []
place_weights slots (suc k) = slots ^ k ∷ place_weights slots k

-- each individual that isn't below a number of slots is the last one below
abbrev pub narrowed : ℕ → List IndId → List IndId
narrowed slots tuple = map (λ i. record { 0 = min i.0 (slots - 1) }) tuple
