use Rattle.std.proofs.Common.{◌≡◌, take}
use Rattle.std.specs.List.{sum_by}
use Rattle.tcq_syntax.specs.Sizes.{units_of}
use Rattle.streams_report.proofs.opening.total_units.Given as goal

abbrev pub invariant-loop-query : goal.invariant-loop-query
invariant-loop-query l = l.total ≡ sum_by (units_of l.individuals) (take l.query-index l.queries)
