use Rattle.std.proofs.Common.{take, subst, arith}
use Rattle.std.proofs.lemmas.List.{take_all}
use Rattle.std.proofs.lemmas.List.Elements.{All-more}
use Rattle.saturate.specs.Sight.{SeesUnion}
use Rattle.monitor_core.specs.declared.plan.Leaf.{Leaf}
use Rattle.monitor_core.specs.Planning.{SeesLeaves}
use Rattle.monitor_core.proofs.Seeing.{leaves_kept}
use Rattle.monitor_core.proofs.opening.see_leaves.Goals as goal

pub loop-leaf-preserved : goal.loop-leaf-preserved
loop-leaf-preserved c =
    let leaves = c.args.leaves.now in
    let i = c.loop-leaf.leaf-index in
    let new = c.see.new.sight in
    let own : SeesUnion new c.leaf-item.result.core.items =
    subst (SeesUnion new) c.as_slice.ensures.value c.in_ok-see.ensures.seen in
    All-more (λ (l : Leaf). SeesUnion new l.core.items) leaves i c.leaf-item.result
    c.loop-leaf-test.true (leaves_kept c.loop-leaf.sight new c.in_ok-see.ensures.kept
    (take i leaves) c.loop-leaf.invariant)
    (subst (λ (l : Leaf). SeesUnion new l.core.items) c.leaf-item.is own)

pub returns : goal.returns
returns c = subst (SeesLeaves c.loop-leaf.sight)
    (take_all c.loop-leaf.leaf-index c.args.leaves.now (omega (arith, c.loop-leaf-test.false)))
    c.loop-leaf.invariant
