use Rattle.std.proofs.Common.{ℕ, List, [], sym, subst}
use Rattle.std.proofs.lemmas.List.Elements.{All-cons, All-nil}
use Rattle.tcq_syntax.specs.declared.nodes.Node.{Node}
use Rattle.tcq_syntax.specs.Tcq.{Tcq, IsTcq}
use Rattle.tcq_syntax.proofs.Example.{is_tcq}
use Rattle.checkpoint_reader.proofs.tests.read_worked.Goals as goal

pub read-requires-clause-tables : goal.read-requires-clause-tables
read-requires-clause-tables c =
    let q = c.in_ok-query.query in
    All-cons (λ (query : Tcq). IsTcq query.vars query.nodes) q []
    (subst (λ (vars : ℕ). IsTcq vars q.nodes) (sym c.in_ok-query.ensures.vars)
    (subst (λ (nodes : List Node). IsTcq 1 nodes) (sym c.in_ok-query.ensures.nodes) is_tcq))
    (All-nil (λ (query : Tcq). IsTcq query.vars query.nodes))
