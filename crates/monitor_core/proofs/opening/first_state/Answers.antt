use Rattle.monitor_core.proofs.Starting.{fresh_counts}
use Rattle.monitor_core.proofs.opening.first_state.Goals as goal

pub state_of-requires : goal.state_of-requires
state_of-requires c = fresh_counts c.args.queries.now c.in_ok-kept.kept.items c.in_ok-kept.ensures
