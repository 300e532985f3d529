use Rattle.std.proofs.Common.{◌≡◌, ◌++◌, take}
use Rattle.report_text.specs.Lines.{answers_text}
use Rattle.report_text.proofs.line.append_answers.Given as goal

abbrev pub invariant-loop-place : goal.invariant-loop-place
invariant-loop-place l = l.out.items ≡ l.initial.out.items
    ++ answers_text l.ontology.individuals l.query (take l.place l.rows.rows)
