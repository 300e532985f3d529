-- The row is no answer of the queries so far.
use Rattle.contain_test.proofs.Rows.{NoneBefore}
use Rattle.contain_test.proofs.binding.has_row_in_union.Given as goal

abbrev pub invariant-loop-query : goal.invariant-loop-query
invariant-loop-query l = NoneBefore l.index l.union l.row l.query-index
