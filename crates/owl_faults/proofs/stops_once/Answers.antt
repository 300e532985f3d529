use Rattle.owl_faults.proofs.Stops as stops
use Rattle.owl_faults.proofs.stops_once.Goals as goal

pub returns : goal.returns
returns c = stops.stops_once
