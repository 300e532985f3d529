use Rattle.checkpoint_state.proofs.Parts.{suspended_tells}
use Rattle.checkpoint_state.proofs.laws.suspended_tells.Goals as goal

pub returns : goal.returns
returns c = suspended_tells
