use Rattle.snapshot_reader.proofs.SaidFacts as facts
use Rattle.snapshot_reader.proofs.laws.said_are_distinct.Goals as goal

pub returns : goal.returns
returns c = facts.said_are_distinct
