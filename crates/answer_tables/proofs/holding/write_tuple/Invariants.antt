use Rattle.std.proofs.Common.{◌≡◌, ◌+◌, ◌*◌, ◌^◌, ◌<◌, ◌≤◌, length}
use Rattle.answer_tables.specs.Tuples.{number}
use Rattle.answer_tables.proofs.Numbers.{Digits}
use Rattle.answer_tables.proofs.holding.write_tuple.Given as goal

abbrev pub invariant-loop-places : goal.invariant-loop-places
invariant-loop-places l = record {
  few : l.places ≤ l.arity;
  long : length l.tuple.items + l.places ≡ l.arity;
  digits : Digits l.slots l.tuple.items;
  within : l.rest < l.slots ^ l.places;
  told : number l.slots l.tuple.items * l.slots ^ l.places + l.rest ≡ l.rank;
}

abbrev pub decreases-loop-places : goal.decreases-loop-places
decreases-loop-places l = l.places
