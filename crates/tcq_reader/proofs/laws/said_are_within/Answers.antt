use Rattle.tcq_reader.proofs.WithinLemmas as within
use Rattle.tcq_reader.proofs.laws.said_are_within.Goals as goal

pub returns : goal.returns
returns c = within.said_are_within
