use Rattle.std.proofs.Common.{◌≡◌, ◌≤◌, ◌++◌}
use Rattle.answer_tables.specs.Spreading.{place_weights}
use Rattle.answer_tables.proofs.widen.weights_of_places.Given as goal

abbrev pub invariant-loop-places : goal.invariant-loop-places
invariant-loop-places l = record {
  few : l.places ≤ l.arity;
  weights : place_weights l.slots l.arity ≡ l.weights.items ++ place_weights l.slots l.places;
}

abbrev pub decreases-loop-places : goal.decreases-loop-places
decreases-loop-places l = l.places
