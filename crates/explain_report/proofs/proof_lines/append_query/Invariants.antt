use Rattle.report_text.specs.Names.{Text}
use Rattle.explain_report.specs.Answers.{IsEarlier, TellsMore}
use Rattle.explain_report.proofs.proof_lines.append_query.Given as goal

abbrev pub invariant-loop-leaf : goal.invariant-loop-leaf
invariant-loop-leaf l = (before : Text)
    → TellsMore (IsEarlier l.query 0) l.source.explainer.now l.source.snapshot.now before
    l.initial.out.items
    → TellsMore (IsEarlier l.query l.leaf) l.source.explainer.now l.source.snapshot.now before
    l.out.items
