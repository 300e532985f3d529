-- Answers to the goals of `rows_of_queries`: one more query and its rows.
use Rattle.std.proofs.Common.{subst}
use Rattle.std.specs.Prelude.{Vec}
use Rattle.std.specs.Global.{Global}
use Rattle.dl_syntax.specs.Rows.{Relation}
use Rattle.tcq_syntax.specs.Tcq.{Tcq}
use Rattle.model_audit.specs.Rows.{AreRowsOfQuery}
use Rattle.list_lemmas.proofs.Zipped.{AllZip-next}
use Rattle.model_audit.proofs.rows.rows_of_queries.Goals as goal

pub loop-query-preserved : goal.loop-query-preserved
loop-query-preserved c =
    AllZip-next (λ (query : Tcq) (each : Vec Relation Global).
    AreRowsOfQuery c.args.index.now c.args.count query each.items)
    c.args.queries.now c.loop-query.rows.items c.push.new.self.items c.loop-query.query-index
    c.query-item.result
    c.in_ok-each.each c.loop-query-test.true c.loop-query.invariant
    (subst (λ (query : Tcq).
    AreRowsOfQuery c.args.index.now c.args.count query c.in_ok-each.each.items) c.query-item.is
    c.in_ok-each.ensures)
    c.in_ok-push.ensures.items
