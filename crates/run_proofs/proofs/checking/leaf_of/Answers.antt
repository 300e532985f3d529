use Rattle.std.proofs.Common.{◌≡◌, sym, ◌∙◌, ap}
use Rattle.std.specs.Prelude.{Some, slice_get}
use Rattle.std.proofs.lemmas.Option.{slice_get-get_or}
use Rattle.tcq_syntax.specs.Tcq.{Tcq}
use Rattle.tcq_syntax.specs.declared.nodes.Node.{Node}
use Rattle.run_proofs.proofs.Leaves.{node_there, leaf_bound}
use Rattle.run_proofs.proofs.checking.leaf_of.Goals as goal

there : (c : goal.After-leaf_in) → slice_get c.args.queries.now c.args.query
    ≡ Some c.in-Some.known.now
there c =
    let h = c.in-Some.ensures in
    slice_get-get_or c.args.queries.now c.args.query c.in-Some.known.now h.lookup.3.0 ∙ ap
    (λ (q : Tcq). Some q) (sym h.lookup.1)

at : (c : goal.After-leaf_in) → slice_get c.in-Some.known.now.nodes c.args.leaf
    ≡ Some c.in-Some-get.node.now
at c =
    let h = rw c.nodes.ensures.same at c.in-Some-get.ensures in
    slice_get-get_or c.in-Some.known.now.nodes c.args.leaf c.in-Some-get.node.now h.lookup.3.0 ∙ ap
    (λ (n : Node). Some n) (sym h.lookup.1)

pub returns-clause-same : goal.returns-clause-same
returns-clause-same c = c.leaf_in.ensures ∙ sym
    (node_there c.args.queries.now c.args.query c.args.leaf c.in-Some.known.now
    (Some c.in-Some-get.node.now) (there c) (at c))

pub returns-clause-bound : goal.returns-clause-bound
returns-clause-bound c = leaf_bound c.in-Some.known.now.vars c.args.leaf c.in-Some.known.now.nodes
    c.in-Some-get.node.now c.leaf_in.result c.nodes.ensures.valid (at c) c.leaf_in.ensures
