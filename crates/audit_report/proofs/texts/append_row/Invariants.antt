use Rattle.std.proofs.Common.{◌≡◌, ◌++◌, take}
use Rattle.report_text.specs.Lines.{row_text}
use Rattle.audit_report.proofs.texts.append_row.Given as goal

abbrev pub invariant-loop-individual : goal.invariant-loop-individual
invariant-loop-individual l = l.out.items
    ≡ l.initial.out.items ++ row_text l.ontology.individuals (take l.individual-index l.row)
