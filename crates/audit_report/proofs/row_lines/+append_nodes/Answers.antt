-- Answers to the goals of `append_nodes`: a leaf's rows come first, and then those of later nodes.
use Rattle.std.proofs.Common.{arith, sym, ◌∙◌, []}
use Rattle.audit_report.proofs.Rows.{named_first, first_leaf_told}
use Rattle.audit_report.proofs.row_lines.+append_nodes.Goals as goal

pub append_leaf-requires : goal.append_leaf-requires
append_leaf-requires t c =
    (named_first c.args.ontology.now [] c.in-Some-split_first.first.now c.args.rows.now
    c.in-Some-split_first.others.now c.in-Some-split_first.ensures.cases.0 c.requires.named).0

pub append_nodes-requires-2 : goal.append_nodes-requires-2
append_nodes-requires-2 t c = (
  omega (arith, c.in-Some.ensures.cases.1),
  (
    omega (arith, c.in-Some.ensures.cases.1),
    (named_first c.args.ontology.now [] c.in-Some-split_first.first.now c.args.rows.now
        c.in-Some-split_first.others.now c.in-Some-split_first.ensures.cases.0 c.requires.named).1,
  ),
)

pub returns : goal.returns
returns t c =
    first_leaf_told c.args.ontology.now c.args.name.now c.args.place c.in-Some.node.now
    c.args.nodes.now c.in-Some.later.now c.in-Some-split_first.first.now c.args.rows.now
    c.in-Some-split_first.others.now c.args.out.now.items c.append_leaf.new.out.items
    c.append_nodes-2.new.out.items c.append_nodes-2.result c.in-Some.ensures.cases.0
    (sym c.is_leaf.ensures ∙ c.if-not-is_leaf.false) c.in-Some-split_first.ensures.cases.0
    c.in_ok-append_leaf.ensures c.append_nodes-2.ensures
