use Rattle.ontology_reader.proofs.RoundTrips as trips
use Rattle.ontology_reader.proofs.laws.sayings_are_spelled.Goals as goal

pub returns : goal.returns
returns c = trips.sayings_are_spelled
