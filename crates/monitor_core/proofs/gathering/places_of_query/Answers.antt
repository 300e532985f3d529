use Rattle.std.proofs.Common.{◌≡◌, ◌++◌, [], ◌∷◌, List, suc, take, drop, sym, ◌∙◌, ap, subst}
use Rattle.std.specs.Prelude.{Some, slice_get}
use Rattle.std.proofs.lemmas.Option.{slice_get-get_or}
use Rattle.dl_syntax.specs.declared.queries.Cq.{Cq}
use Rattle.tcq_syntax.specs.declared.nodes.Node.{Node}
use Rattle.tcq_syntax.specs.declared.nodes.Node.TheVariants as node
use Rattle.progression.specs.Tables.{leaves_of}
use Rattle.perfect_ref.specs.Counting.{ReachMore}
use Rattle.monitor_core.specs.Opening.{Gathers}
use Rattle.monitor_core.proofs.Askable.{askable, leaves_parted, leaves_taken}
use Rattle.perfect_ref.proofs.Counting.{more_first}
use Rattle.monitor_core.proofs.gathering.places_of_query.Goals as goal

pub add_node-requires-clause-askable : goal.add_node-requires-clause-askable
add_node-requires-clause-askable c = λ q is.
    let nodes = c.nodes-nodes.result.now in
    let i = c.loop-node.node-index in
    let there : slice_get nodes i ≡ Some c.node-item.result =
    slice_get-get_or nodes i c.node-item.result c.loop-node-test.true ∙ ap Some
    (sym c.node-item.is) in
    askable c.args.rewriter.now c.args.query.now i q c.nodes-nodes.ensures.valid c.requires.plain
    (subst (λ (ns : List Node). slice_get ns i
    ≡ Some (node.Leaf q)) c.nodes-nodes.ensures.same (there ∙ ap Some is))

pub returns-in-Err-clause-many : goal.returns-in-Err-clause-many
returns-in-Err-clause-many c = λ is.
    let nodes = c.nodes-nodes.result.now in
    let i = c.loop-node.node-index in
    let n = c.node-item.result in
    let more : ReachMore c.args.rewriter.now (leaves_of (take i nodes) ++ leaves_of (n ∷ []))
    c.args.room = c.add_node.ensures.many (c.in-Err.is ∙ cc) (leaves_of (take i nodes))
    c.loop-node.invariant.ok in
    subst (λ (ns : List Node). ReachMore c.args.rewriter.now (leaves_of ns) c.args.room)
    c.nodes-nodes.ensures.same
    (subst (λ (qs : List Cq). ReachMore c.args.rewriter.now qs c.args.room)
    (sym (leaves_parted nodes i n c.loop-node-test.true c.node-item.is))
    (more_first c.args.rewriter.now (leaves_of (take i nodes) ++ leaves_of (n ∷ []))
    (leaves_of (drop (suc i) nodes)) c.args.room more))

pub loop-node-preserved : goal.loop-node-preserved
loop-node-preserved c =
    let nodes = c.nodes-nodes.result.now in
    let i = c.loop-node.node-index in
    let after = c.add_node.new.leaves.items in
    record {
      few = c.in-Ok.ensures.few;
      leaves = c.in-Ok.ensures.leaves;
      kept = λ place leaf there. c.in-Ok.ensures.kept place leaf
          (c.loop-node.invariant.kept place leaf there);
      ok = subst (λ (qs : List Cq). Gathers c.args.rewriter.now qs after
          c.add_node.new.places.each.items c.add_node.new.places.reached)
          (sym (leaves_taken nodes i c.node-item.result c.loop-node-test.true c.node-item.is))
          (c.in-Ok.ensures.ok (leaves_of (take i nodes)) c.loop-node.invariant.ok);
    }
