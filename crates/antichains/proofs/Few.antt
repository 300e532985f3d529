-- How many sets a antichain may have.
use Rattle.std.proofs.Common.{◌≡◌, ℕ, zero, suc, ◌<◌, ◌≤◌, ◌^◌, List, length, get_or, refl, arith}
use Rattle.std.specs.Prelude.{All, AllPairs}
use Rattle.antichains.specs.Laws.{FewSets}

-- a number of a rising list is at least its place
at_least : (sets : List ℕ) → AllPairs (λ a b. a < b) sets → (place d : ℕ) → place < length sets
    → place ≤ get_or sets place d
at_least sets rising zero d within = omega arith
at_least sets rising (suc place) d within =
    omega (
      arith,
      at_least sets rising place d (omega (arith, within)),
      rising place (suc place) d
          (omega arith) within,
    )

-- a rising list of numbers below a limit is at most as long
pub few_below : (limit : ℕ) (sets : List ℕ) → AllPairs (λ a b. a < b) sets
    → All (λ set. set < limit) sets → length sets ≤ limit
few_below limit sets rising small = by_length (length sets) refl where
  by_length : (n : ℕ) → length sets ≡ n → n ≤ limit
  by_length zero long = omega arith
  by_length (suc n) long =
      let within : n < length sets = omega (arith, long) in
      omega (arith, at_least sets rising n 0 within, small n 0 within)

pub few_sets : FewSets
few_sets nodes sets antichain small = few_below (2 ^ nodes) sets antichain.rising small
