use Rattle.std.proofs.Common.{◌≡◌, length, arith, ap, sym, subst, List, rules}
use Rattle.std.specs.Prelude.{Err, Option, Some, slice_get}
use Rattle.worklist.proofs.Closed.{slice_get-from_read}
use Rattle.list_lemmas.proofs.Zipped.{AllZip-next}
use Rattle.tcq_syntax.specs.declared.nodes.Node.{Node}
use Rattle.run_proofs.specs.Shows.{leaf_of_node}
use Rattle.proof_search.specs.declared.fault.ProofFault.TheVariants.{TooManyRewritings}
use Rattle.proof_search.specs.Explainer.{IsSearchOf}
use Rattle.proof_search.specs.Goals.{ReachesMore}
use Rattle.proof_search.proofs.LeavesAt.{leaf_query}
use Rattle.proof_search.proofs.searches.searches_of.Goals as goal

pub search_of-requires : goal.search_of-requires
search_of-requires c = λ q is.
    let at : slice_get c.args.query.now.nodes c.loop-node.node-index ≡ Some c.node-item.result =
    slice_get-from_read c.args.query.now.nodes c.nodes-nodes.result.now c.loop-node.node-index
    c.node-item.result c.nodes-nodes.ensures.same
    (omega (
      arith,
      c.loop-node-test.true,
      ap (λ (ns : List Node). length ns)
          c.nodes-nodes.ensures.same,
    )) c.node-item.is in
    leaf_query c.args.query.now.vars c.loop-node.node-index c.args.query.now.nodes
    c.node-item.result q c.nodes-nodes.ensures.valid at is

pub returns-in_err-search-clause-many : goal.returns-in_err-search-clause-many
returns-in_err-search-clause-many c = λ err.
    let at : slice_get c.args.query.now.nodes c.loop-node.node-index ≡ Some c.node-item.result =
    slice_get-from_read c.args.query.now.nodes c.nodes-nodes.result.now c.loop-node.node-index
    c.node-item.result c.nodes-nodes.ensures.same
    (omega (
      arith,
      c.loop-node-test.true,
      ap (λ (ns : List Node). length ns)
          c.nodes-nodes.ensures.same,
    )) c.node-item.is in
    let is : c.search_of.result ≡ Err TooManyRewritings = search rules in (
      c.loop-node.node-index,
      subst (λ (n : Option Node). ReachesMore c.args.ontology.now (leaf_of_node n) c.args.room)
          (sym at) (c.search_of.ensures.many is),
    )

pub loop-node-preserved : goal.loop-node-preserved
loop-node-preserved c =
    AllZip-next (IsSearchOf c.args.ontology.now c.args.room) c.nodes-nodes.result.now
    c.loop-node.searches.items c.push.new.self.items c.loop-node.node-index c.node-item.result
    c.in_ok-search.search c.loop-node-test.true c.loop-node.invariant
    (subst (λ (n : Node). IsSearchOf c.args.ontology.now c.args.room n c.in_ok-search.search)
    c.node-item.is
    c.in_ok-search.ensures.search)
    c.in_ok-push.ensures.items
