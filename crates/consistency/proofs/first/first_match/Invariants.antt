use Rattle.std.proofs.Common.{◌≡◌}
use Rattle.consistency.specs.Matching.{NoneBefore}
use Rattle.consistency.proofs.first.first_match.Given as goal

abbrev pub invariant-loop-rewriting : goal.invariant-loop-rewriting
invariant-loop-rewriting l = (l.number ≡ l.rewriting-index)
    × NoneBefore l.index l.part l.rewritings l.rewriting-index
