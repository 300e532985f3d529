use Rattle.std.proofs.Common.{◌≡◌, ◌++◌, get_or, sym, ◌∙◌, ap, arith}
use Rattle.std.proofs.lemmas.Option.{get_or_from_slice_get}
use Rattle.audit_report.proofs.Pieces.{piece_more}
use Rattle.audit_report.specs.Lines.{leaf_row_text}
use Rattle.audit_report.proofs.row_lines.append_leaf.Goals as goal

pub loop-at-preserved : goal.loop-at-preserved
loop-at-preserved c =
    let names = c.args.ontology.now.individuals in
    let row = c.row.result.now in
    let text = leaf_row_text names c.args.name.now c.args.place in
    let is : get_or c.args.rows.now.rows c.loop-at.at row ≡ row =
    get_or_from_slice_get c.args.rows.now.rows c.loop-at.at row row c.row.ensures in
    c.in_ok-append_leaf_row.ensures
    ∙ (ap (λ r. c.loop-at.out.items ++ text r) (sym is)
    ∙ piece_more text c.args.rows.now.rows c.loop-at.at row
    c.args.out.now.items c.loop-at.out.items (omega arith) c.loop-at.invariant)
