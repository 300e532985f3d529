use Rattle.owl_reader.proofs.StandingLemmas as standing
use Rattle.owl_reader.proofs.laws.has_first_fault.Goals as goal

pub returns : goal.returns
returns c = standing.has_first_fault
