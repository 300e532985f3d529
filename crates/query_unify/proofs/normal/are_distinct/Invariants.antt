use Rattle.std.proofs.Common.{◌≡◌, take}
use Rattle.query_unify.specs.Normal.{first_places, same_atom}
use Rattle.query_unify.proofs.normal.are_distinct.Given as goal

abbrev pub invariant-loop-place : goal.invariant-loop-place
invariant-loop-place l = first_places same_atom (take l.place l.atoms) ≡ take l.place l.atoms
