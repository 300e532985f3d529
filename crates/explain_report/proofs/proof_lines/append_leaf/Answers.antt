use Rattle.std.proofs.lemmas.Result.{on_ok_weaker}
use Rattle.explain_report.proofs.Goals.{leaf_told}
use Rattle.explain_report.proofs.proof_lines.append_leaf.Goals as goal

pub returns : goal.returns
returns c =
    on_ok_weaker c.append_rows.result
    (λ own before more. leaf_told c.args.source.now.explainer.now c.args.source.now.snapshot.now
    c.args.query c.args.leaf c.in_ok-rows.rows.rows before c.args.out.now.items
    c.append_rows.new.out.items
    (c.in_ok-rows.ensures c.args.source.now.snapshot.now c.requires.over c.requires.same) more own)
    c.append_rows.ensures
