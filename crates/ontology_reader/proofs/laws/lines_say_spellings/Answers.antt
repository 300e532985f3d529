use Rattle.ontology_reader.proofs.RoundTrips as trips
use Rattle.ontology_reader.proofs.laws.lines_say_spellings.Goals as goal

pub returns : goal.returns
returns c = trips.lines_say_spellings
