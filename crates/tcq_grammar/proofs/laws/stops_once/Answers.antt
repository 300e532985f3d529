use Rattle.tcq_grammar.proofs.Stops as stops
use Rattle.tcq_grammar.proofs.laws.stops_once.Goals as goal

pub returns : goal.returns
returns c = stops.stops_once
