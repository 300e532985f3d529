-- How many tuples in a row have each antichain.
use Rattle.std.specs.Prelude.{◌≡◌, ◌≢◌, ℕ, ◌^◌, ◌≤◌, List, [], ◌∷◌, ◌++◌, All, map, replicate}
use Rattle.dl_syntax.specs.declared.names.IndId.{IndId}
use Rattle.answer_tables.specs.Counts.{counted_antichain, count_of}
use Rattle.answer_tables.specs.Table.{Antichains, at}
use Rattle.answer_tables.specs.Tuples.{IsTuple, number, tuples}

-- the antichains of the tuples, in rising order of the tuples
abbrev pub antichains_in : Antichains → List (List ℕ)
antichains_in table = map (at table) (tuples table.slots table.arity)

-- each antichain as often as it is counted
abbrev pub spread_out : List (ℕ × List ℕ) → List (List ℕ)
spread_out [] = []
spread_out (r ∷ rs) = replicate r.0 r.1 ++ spread_out rs

-- neighbours have different antichains
abbrev pub AreApart : List (ℕ × List ℕ) → Type 0
AreApart [] = Unit {0}
AreApart (r ∷ []) = Unit {0}
AreApart (r ∷ (s ∷ rs)) = (r.1 ≢ s.1) × AreApart (s ∷ rs)

-- the antichains, in as few runs of equal ones as there can be
pub record AreRunsOf (antichains : List (List ℕ)) (runs : List (ℕ × List ℕ)) : Type 0 where
  pub some : All (λ r. 1 ≤ r.0) runs
  pub apart : AreApart runs
  pub all : spread_out runs ≡ antichains

-- there is one way to do that
abbrev pub RunsAreTold : Type 0
RunsAreTold = (antichains : List (List ℕ)) (one other : List (ℕ × List ℕ))
    → AreRunsOf antichains one → AreRunsOf antichains other → one ≡ other

-- a table that gives each tuple the antichain that is counted at its number has the antichains
-- spread out
abbrev pub CountedAreSpread : Type 0
CountedAreSpread = (table : Antichains) (runs : List (ℕ × List ℕ))
    → count_of runs ≡ table.slots ^ table.arity
    → ((tuple : List IndId) → IsTuple table.slots table.arity tuple
    → at table tuple ≡ counted_antichain runs (number table.slots tuple))
    → antichains_in table ≡ spread_out runs

-- tables of as many tuples that have the same antichains in the same order have them at the same
-- tuples
abbrev pub AntichainsTell : Type 0
AntichainsTell = (one other : Antichains) → one.slots ≡ other.slots → one.arity ≡ other.arity
    → antichains_in one ≡ antichains_in other
    → (tuple : List IndId) → IsTuple one.slots one.arity tuple → at one tuple ≡ at other tuple
