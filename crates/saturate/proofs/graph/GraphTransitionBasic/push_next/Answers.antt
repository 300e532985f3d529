use Rattle.list_lemmas.proofs.Elements.{All-from_contains}
use Rattle.saturate.specs.Above.{Along}
use Rattle.saturate.proofs.graph.GraphTransitionBasic.push_next.Goals as goal

pub returns : goal.returns
returns c = record {
  added = c.next.result.now;
  order = c.in_ok-extend_from_slice.ensures.items;
  sound = All-from_contains (Along c.args.self.now c.args.state.now) c.next.result.now (λ y there.
      (c.next.ensures y).0 there);
  complete = λ y taken. (c.next.ensures y).1 taken;
}
