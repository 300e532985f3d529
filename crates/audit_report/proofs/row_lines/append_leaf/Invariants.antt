use Rattle.std.proofs.Common.{◌≡◌, ◌++◌, take}
use Rattle.audit_report.specs.Lines.{leaf_text}
use Rattle.audit_report.proofs.row_lines.append_leaf.Given as goal

abbrev pub invariant-loop-at : goal.invariant-loop-at
invariant-loop-at l = l.out.items ≡ l.initial.out.items
    ++ leaf_text l.ontology.individuals l.name l.place (take l.at l.rows.rows)
