use Rattle.std.proofs.Common.{◌≡◌, true}
use Rattle.verify_report.proofs.Coming.{comes_asked}
use Rattle.verify_report.proofs.outcome.outside_outcome.Goals as goal

pub returns-clause-comes : goal.returns-clause-comes
returns-clause-comes c =
    comes_asked c.args.ontology.now c.args.queries.now c.args.line.now c.in_ok-goal.goal
    c.begun.result
    (λ over. (let passed : c.in_ok-is_passed_over.field-0 ≡ true =
    c.in_ok-is_passed_over.ensures.1 over in absurd (cc)))
    c.in_ok-goal.ensures c.begun.ensures.outcome
