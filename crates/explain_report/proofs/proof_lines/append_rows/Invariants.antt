use Rattle.std.proofs.Common.{take}
use Rattle.explain_report.specs.Answers.{TellsRows}
use Rattle.explain_report.proofs.proof_lines.append_rows.Given as goal

abbrev pub invariant-loop-at : goal.invariant-loop-at
invariant-loop-at l = TellsRows l.source.explainer.now l.source.snapshot.now l.query l.leaf
    (take l.at l.rows.rows) l.initial.out.items l.out.items
