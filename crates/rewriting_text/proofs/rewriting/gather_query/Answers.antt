use Rattle.std.proofs.Common.{◌≡◌, ◌∙◌, Err, ap, sym}
use Rattle.std.proofs.lemmas.Result.{err_from_is_err_and}
use Rattle.perfect_ref.specs.declared.rewriting.RewriteFault.TheVariants.{TooManyRewritings}
use Rattle.perfect_ref.specs.Plain.{encoded}
use Rattle.rewriting_text.proofs.Gathering.{leaf_query, node_next, node_large}
use Rattle.rewriting_text.proofs.rewriting.gather_query.Goals as goal

pub gather_node-requires-clause-query : goal.gather_node-requires-clause-query
gather_node-requires-clause-query c = λ q is.
    leaf_query c.args.query.now.vars c.args.query.now.nodes c.nodes-nodes.result.now
    c.loop-place.place c.index-nodes-place.result q c.nodes-nodes.ensures.same
    c.nodes-nodes.ensures.valid c.loop-place-test.true c.index-nodes-place.is is

pub returns-in_err-gather_node-clause-many : goal.returns-in_err-gather_node-clause-many
returns-in_err-gather_node-clause-many c = λ h.
    let p = err_from_is_err_and c.from_residual.result c.from_residual.ensures.1 in
    let passed = sym p.1 ∙ h in
    let same : p.0 ≡ TooManyRewritings = cc passed in
    node_large (encoded c.args.source.now.ontology.now) c.args.query.now
    c.bytes-name.result.now c.nodes-nodes.result.now c.loop-place.place
    c.index-nodes-place.result (c.bytes-name.ensures ∙ c.name.ensures)
    c.nodes-nodes.ensures.same c.loop-place-test.true c.index-nodes-place.is
    (c.in_err-gather_node.ensures.many (ap Err (sym p.2 ∙ same)))

pub loop-place-preserved : goal.loop-place-preserved
loop-place-preserved c =
    node_next c.args.source.now.ontology.now c.bytes-name.result.now c.args.text.now.items
    c.loop-place.text.items c.gather_node.new.text.items c.nodes-nodes.result.now
    c.loop-place.place c.index-nodes-place.result
    c.loop-place-test.true c.index-nodes-place.is c.loop-place.invariant
    c.in_ok-gather_node.ensures.gathers
