use Rattle.std.proofs.Common.{◌≡◌, ℕ, ◌+◌, ◌∙◌, refl, sym, ap, cond}
use Rattle.std.specs.Prelude.{Some, slice_get}
use Rattle.std.proofs.lemmas.Option.{slice_get_read}
use Rattle.tcq_syntax.specs.Formula.{is_future}
use Rattle.progression.specs.Step.{with_weak}
use Rattle.progression.proofs.Pushes.{number_at-next}
use Rattle.progression.proofs.WeakNodes.{IsWeakTo-step, IsWeakTo-end}
use Rattle.progression.proofs.weak.weak_set.Goals as goal

pub loop-node-preserved : goal.loop-node-preserved
loop-node-preserved c =
    let nodes = c.args.nodes.now in
    let i = c.loop-node.node-index in
    let inv = c.loop-node.invariant in
    let m = c.node-item.result in
    let at : slice_get nodes i ≡ Some m =
    slice_get_read nodes _ _ _ refl c.loop-node-test.true c.node-item.is in
    record {
      number = c.next_number-number.ensures ∙ ap (λ (k : ℕ).
          k + cond (is_future m) 1 0) inv.number ∙ sym (number_at-next nodes i m at);
      weak = IsWeakTo-step nodes i c.loop-node.set inv.weak m at c.with_weak-set.result
          (c.with_weak-set.ensures ∙ ap (λ (k : ℕ). with_weak c.loop-node.set k m) inv.number);
    }

pub returns : goal.returns
returns c = IsWeakTo-end c.args.nodes.now c.loop-node.node-index c.loop-node.set
    c.loop-node-test.false c.loop-node.invariant.weak
