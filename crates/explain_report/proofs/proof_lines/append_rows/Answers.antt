use Rattle.explain_report.proofs.Goals.{row_told}
use Rattle.explain_report.proofs.proof_lines.append_rows.Goals as goal

pub loop-at-preserved : goal.loop-at-preserved
loop-at-preserved c =
    row_told c.args.source.now.explainer.now c.args.source.now.snapshot.now c.args.query
    c.args.leaf c.loop-at.at c.args.rows.now.rows c.row.result.now c.args.out.now.items
    c.loop-at.out.items c.append_shown.new.out.items c.row.ensures c.loop-at.invariant
    (rw c.in_ok-row.ensures at c.in_ok-append_shown.ensures)
