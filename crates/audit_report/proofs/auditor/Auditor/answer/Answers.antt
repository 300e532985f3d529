use Rattle.std.proofs.Common.{◌+◌, sym, ap}
use Rattle.std.specs.Prelude.{Option, List}
use Rattle.dl_syntax.specs.declared.facts.Fact.{Fact}
use Rattle.audit_report.specs.Auditing.{task_of, standing_of}
use Rattle.audit_report.proofs.Replies.{rows_named, answers}
use Rattle.audit_report.proofs.auditor.Auditor.answer.Goals as goal

pub append_audit-requires : goal.append_audit-requires
append_audit-requires c =
    rows_named c.args.self.now.ontology.now c.args.model.now c.args.self.now.queries.now
    c.in_ok-found.found c.in_ok-found.ensures.rows

pub returns-clause-tells : goal.returns-clause-tells
returns-clause-tells c =
    let a = c.args.self.now in
    answers (task_of a.ontology.now a.queries.now) (standing_of a.waiting a.models a.refused)
    (standing_of c.take.new.self (a.models + 1) a.refused) c.args.number c.in-Some.snapshot
    c.args.model.now c.args.gathered.now.items c.append_audit.new.out.items
    (sym c.in-Some.ensures.value)
    (ap (λ (w : Option (List Fact)). standing_of w (a.models + 1) a.refused)
    c.in-Some.ensures.after)
    (c.in_ok-append_audit.ensures c.in-Some.snapshot c.args.model.now c.in_ok-found.ensures.found
    c.in_ok-found.ensures.rows)
