use Rattle.std.proofs.Common.{take, map}
use Rattle.std.specs.List.{Contains}
use Rattle.progression.proofs.fitting.has_place.Given as goal

abbrev pub invariant-loop-entry : goal.invariant-loop-entry
invariant-loop-entry l = Contains (map (λ entry. entry.0) (take l.entry-index l.tables)) l.place → ⊥
