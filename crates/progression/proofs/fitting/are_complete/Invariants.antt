use Rattle.std.proofs.Common.{◌<◌, ℕ, map}
use Rattle.std.specs.List.{Contains}
use Rattle.tcq_syntax.specs.Kept.{IsKept}
use Rattle.progression.proofs.fitting.are_complete.Given as goal

abbrev pub invariant-loop-place : goal.invariant-loop-place
invariant-loop-place l = (p : ℕ) → p < l.place → IsKept l.query.nodes p
    → Contains (map (λ entry. entry.0) l.tables) p
