use Rattle.std.proofs.Common.{refl}
use Rattle.stream_maker.specs.Draws.{next}
use Rattle.stream_maker.proofs.draws.next_state.Goals as goal

pub returns : goal.returns
unfolding next
returns c = refl
