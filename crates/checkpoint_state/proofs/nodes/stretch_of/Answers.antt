-- The place of a run's antichain is its number.
use Rattle.checkpoint_state.proofs.Loops.{stretch_made}
use Rattle.checkpoint_state.proofs.nodes.stretch_of.Goals as goal

pub returns : goal.returns
returns c =
    stretch_made c.args.store.now c.args.run.now c.in-Some.list c.requires.distinct
    c.in-Some.ensures
