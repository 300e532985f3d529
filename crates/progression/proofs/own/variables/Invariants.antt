use Rattle.std.proofs.Common.{◌≡◌, take, map}
use Rattle.progression.specs.Tables.{variable_of}
use Rattle.progression.proofs.own.variables.Given as goal

abbrev pub invariant-loop-term : goal.invariant-loop-term
invariant-loop-term l = l.places.items ≡ map variable_of (take l.term-index l.head)
