use Rattle.tcq_grammar.proofs.Stops as stops
use Rattle.tcq_grammar.proofs.laws.fronts_go_on.Goals as goal

pub returns : goal.returns
returns c = stops.fronts_go_on
