use Rattle.std.proofs.Common.{ap, ◌/◌, ◌%◌}
use Rattle.stream_maker.specs.Draws.{given}
use Rattle.stream_maker.proofs.draws.Generator.draw.Goals as goal

pub returns-clause-drawn : goal.returns-clause-drawn
unfolding given
returns-clause-drawn c = ap (λ state. state / 65536 % c.args.limit) c.next_state-self.ensures
