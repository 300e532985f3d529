use Rattle.std.proofs.Common.{length}
use Rattle.audit_report.proofs.row_lines.+append_nodes.Given as goal

abbrev pub decreases-append_nodes : goal.decreases-append_nodes
decreases-append_nodes l = length l.nodes.now
