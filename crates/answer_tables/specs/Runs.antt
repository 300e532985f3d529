-- Numbers for all ranks below an end, as runs of equal ones.
use Rattle.std.specs.Prelude.{◌≡◌, ℕ, suc, ◌<◌, ◌≤◌, nat_lt, if◌then◌else◌, List, [], ◌∷◌, All}
use Rattle.answer_tables.specs.declared.run.Run.{Run}

-- the number at a rank is that of the first run that ends above it
abbrev pub link_at : List Run → ℕ → ℕ
link_at [] n = 0
link_at (r ∷ rs) n = (if nat_lt n r.end then r.link else link_at rs n)

-- where runs end that begin at a rank
abbrev pub end_from : ℕ → List Run → ℕ
end_from start [] = start
end_from start (r ∷ rs) = end_from r.end rs

-- a run of one rank for each number, from a rank on
abbrev pub unit_runs : ℕ → List ℕ → List Run
unit_runs start [] = []
unit_runs start (n ∷ ns) = (record { end = suc start; link = n }) ∷ unit_runs (suc start) ns

-- each run ends above its beginning
abbrev pub RiseFrom : ℕ → List Run → Type 0
RiseFrom start [] = Unit {0}
RiseFrom start (r ∷ rs) = (start < r.end) × RiseFrom r.end rs

-- each number is below a limit
abbrev pub NamedBelow : ℕ → List Run → Type 0
NamedBelow limit runs = All (λ r. r.link < limit) runs

-- the runs after one more, which gives its number to the ranks from their end up to its own
pub record Extended (old : List Run) (run : Run) (new : List Run) : Type 0 where
  pub rise : RiseFrom 0 new
  pub ends : end_from 0 new ≡ run.end
  pub before : (n : ℕ) → n < end_from 0 old → link_at new n ≡ link_at old n
  pub since : (n : ℕ) → end_from 0 old ≤ n → n < run.end → link_at new n ≡ run.link
  pub named : (limit : ℕ) → NamedBelow limit old → run.link < limit → NamedBelow limit new

-- other runs with the same number at each rank
pub record AreAlike (runs new : List Run) : Type 0 where
  pub rise : RiseFrom 0 new
  pub ends : end_from 0 new ≡ end_from 0 runs
  pub same : (n : ℕ) → n < end_from 0 runs → link_at new n ≡ link_at runs n
  pub named : (limit : ℕ) → NamedBelow limit runs → NamedBelow limit new
