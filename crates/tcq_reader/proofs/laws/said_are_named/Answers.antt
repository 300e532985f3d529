use Rattle.tcq_reader.proofs.NamedLemmas as named
use Rattle.tcq_reader.proofs.laws.said_are_named.Goals as goal

pub returns : goal.returns
returns c = named.said_are_named
