use Rattle.std.proofs.Common.{length}
use Rattle.audit_report.proofs.row_lines.+append_queries.Given as goal

abbrev pub decreases-append_queries : goal.decreases-append_queries
decreases-append_queries l = length l.queries.now
