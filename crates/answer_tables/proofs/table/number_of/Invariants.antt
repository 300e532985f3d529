use Rattle.std.proofs.Common.{◌≡◌, ◌<◌, ◌^◌, take}
use Rattle.answer_tables.specs.Tuples.{number}
use Rattle.answer_tables.proofs.table.number_of.Given as goal

abbrev pub invariant-loop-individual : goal.invariant-loop-individual
invariant-loop-individual l =
    record {
      value : l.number ≡ number l.slots (take l.individual-index l.tuple);
      bound : l.number < l.slots ^ l.individual-index;
    }
