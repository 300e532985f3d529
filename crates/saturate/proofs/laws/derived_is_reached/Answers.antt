use Rattle.saturate.proofs.DerivedRuns.{derived_is_reached}
use Rattle.saturate.proofs.laws.derived_is_reached.Goals as goal

pub returns : goal.returns
returns c = derived_is_reached
