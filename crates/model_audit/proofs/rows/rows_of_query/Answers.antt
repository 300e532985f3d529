-- Answers to the goals of `rows_of_query`: each leaf is a query within the limits.
use Rattle.std.proofs.Common.{List, take, sym, ◌∙◌, subst}
use Rattle.std.specs.List.{AllZip}
use Rattle.dl_syntax.specs.declared.queries.Cq.{Cq}
use Rattle.tcq_syntax.specs.declared.nodes.Node.{Node}
use Rattle.tcq_syntax.specs.Tcq.{IsTcq}
use Rattle.model_audit.specs.Rows.{AreRowsOf, leaf_queries}
use Rattle.model_audit.proofs.Leaves.{leaf_fits, leaves_taken_item}
use Rattle.model_audit.proofs.rows.rows_of_query.Goals as goal

pub add_rows-requires : goal.add_rows-requires
add_rows-requires c = record {
  leaf = λ q is.
      leaf_fits c.args.query.now.vars c.nodes-nodes.result.now c.loop-node.node-index
      c.node-item.result q
      (subst (λ (nodes : List Node). IsTcq c.args.query.now.vars nodes)
      (sym c.nodes-nodes.ensures.same)
      c.nodes-nodes.ensures.valid) c.loop-node-test.true (sym c.node-item.is ∙ is);
}

pub loop-node-preserved : goal.loop-node-preserved
loop-node-preserved c =
    subst (λ (qs : List Cq).
    AllZip (AreRowsOf c.args.index.now c.args.count) qs c.add_rows.new.rows.items)
    (sym (leaves_taken_item c.nodes-nodes.result.now c.loop-node.node-index c.node-item.result
    c.loop-node-test.true c.node-item.is))
    (c.in_ok-add_rows.ensures (leaf_queries (take c.loop-node.node-index c.nodes-nodes.result.now))
    c.loop-node.invariant)
