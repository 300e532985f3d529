-- Links numbered anew, each antichain once.
use Rattle.std.specs.Prelude.{◌≡◌, ℕ, ◌<◌, List, length, slice_index, slice_index_or, slice_get}
use Rattle.std.specs.Prelude.{Some}
use Rattle.answer_tables.specs.declared.run.Run.{Run}
use Rattle.answer_tables.specs.Runs.{link_at, end_from, RiseFrom, NamedBelow}

-- the places of the links in a list that has each of their antichains once
pub record ArePlaces (links : List (List ℕ)) (once : List (List ℕ)) (places : List ℕ) : Type 0 where
  pub many : length places ≡ length links
  pub same : (i : ℕ) (d : List ℕ) → i < length links
      → slice_get once (slice_index places i) ≡ Some (slice_index_or links i d)
  pub used : (p : ℕ) → p < length once → (i : ℕ) × (i < length links) × (slice_index places i ≡ p)

-- the same runs with other numbers
pub record AreRenamed (places : List ℕ) (runs new : List Run) : Type 0 where
  pub rise : RiseFrom 0 new
  pub ends : end_from 0 new ≡ end_from 0 runs
  pub same : (n : ℕ) → n < end_from 0 runs → link_at new n ≡ slice_index places (link_at runs n)
  pub named : (limit : ℕ) → ((i : ℕ) → i < length places → slice_index places i < limit)
      → NamedBelow limit new
