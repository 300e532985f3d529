use Rattle.checkpoint_state.proofs.OneCheckpoint.{one_checkpoint}
use Rattle.checkpoint_state.proofs.laws.one_checkpoint.Goals as goal

pub returns : goal.returns
returns c = one_checkpoint
