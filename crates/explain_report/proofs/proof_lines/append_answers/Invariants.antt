use Rattle.explain_report.specs.Answers.{IsEarlier, TellsMore}
use Rattle.explain_report.proofs.proof_lines.append_answers.Given as goal

abbrev pub invariant-loop-query : goal.invariant-loop-query
invariant-loop-query l =
    TellsMore (IsEarlier l.query 0) l.source.explainer.now l.source.snapshot.now
    l.initial.out.items l.out.items
