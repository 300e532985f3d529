use Rattle.ontology_reader.proofs.RoundTrips as trips
use Rattle.ontology_reader.proofs.laws.spellings_say.Goals as goal

pub returns : goal.returns
returns c = trips.spellings_say
