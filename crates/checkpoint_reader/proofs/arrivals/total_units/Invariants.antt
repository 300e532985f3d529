use Rattle.std.proofs.Common.{◌≡◌, ◌*◌, ◌^◌, ◌≤◌, take}
use Rattle.std.specs.List.{sum_by}
use Rattle.tcq_syntax.specs.Sizes.{units_of}
use Rattle.checkpoint_reader.proofs.arrivals.total_units.Given as goal

abbrev pub invariant-loop-query : goal.invariant-loop-query
invariant-loop-query l = record {
  total : l.total ≡ sum_by (units_of l.individuals) (take l.query-index l.queries);
  bound : l.total ≤ l.query-index * (64 * 65536 ^ 4 * 2 ^ 8);
}
