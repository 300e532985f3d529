use Rattle.std.proofs.Common.{take}
use Rattle.std.specs.List.{All}
use Rattle.ucq_join.specs.Split.{Touches}
use Rattle.ucq_join.proofs.split.touching.Given as goal

-- the atoms so far have none of the variables
abbrev pub invariant-loop-place : goal.invariant-loop-place
invariant-loop-place l = All (λ a. Touches l.known a → ⊥) (take l.place l.atoms)
