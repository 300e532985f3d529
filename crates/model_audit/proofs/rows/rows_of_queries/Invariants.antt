-- The rows so far are those of the queries so far.
use Rattle.std.proofs.Common.{take}
use Rattle.model_audit.specs.Rows.{AreRowsOfQueries}
use Rattle.model_audit.proofs.rows.rows_of_queries.Given as goal

abbrev pub invariant-loop-query : goal.invariant-loop-query
invariant-loop-query l =
    AreRowsOfQueries l.index l.count (take l.query-index l.queries) l.rows.items
