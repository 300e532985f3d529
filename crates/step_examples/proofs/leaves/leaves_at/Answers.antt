use Rattle.std.proofs.Common.{◌≡◌, ◌∷◌, ◌++◌, ◌+◌, ◌∙◌, [], List, ap, subst, sym, take}
use Rattle.std.proofs.lemmas.List.{take_more}
use Rattle.tcq_syntax.specs.declared.nodes.Node.{Node}
use Rattle.step_examples.specs.Over.{AreAnswers, AreOver}
use Rattle.step_examples.specs.Plain.{LeafAsksForMembers}
use Rattle.step_examples.proofs.leaves.leaves_at.Goals as goal

pub loop-node-preserved : goal.loop-node-preserved
loop-node-preserved c =
    let nodes = c.args.nodes.now in
    let front = take c.loop-node.node-index nodes in
    let n = c.node-item.result in
    let new = c.in_ok-leaves.leaves.items in
    let more : take (c.loop-node.node-index + 1) nodes ≡ front ++ n ∷ [] =
    take_more nodes c.loop-node.node-index n c.loop-node-test.true ∙ ap (λ (m : Node).
    front ++ m ∷ []) (sym c.node-item.is) in record {
      over = subst (λ (ns : List Node). AreOver ns new) (sym more)
          (c.in_ok-leaves.ensures.over front c.loop-node.invariant.over);
      answers = λ leaves.
          let leaf : LeafAsksForMembers n =
          subst LeafAsksForMembers (sym c.node-item.is)
          (leaves c.loop-node.node-index n c.loop-node-test.true) in
          subst (λ (ns : List Node). AreAnswers c.args.fact ns new) (sym more)
          (c.in_ok-leaves.ensures.answers leaf front (c.loop-node.invariant.answers leaves));
    }
