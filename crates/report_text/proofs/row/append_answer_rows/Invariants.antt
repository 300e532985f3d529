use Rattle.std.proofs.Common.{◌≡◌, ◌++◌, take}
use Rattle.report_text.specs.Rows.{answer_rows}
use Rattle.report_text.proofs.row.append_answer_rows.Given as goal

abbrev pub invariant-loop-place : goal.invariant-loop-place
invariant-loop-place l = l.out.items ≡ l.initial.out.items
    ++ answer_rows l.ontology.individuals l.line l.number l.query (take l.place l.rows.rows)
