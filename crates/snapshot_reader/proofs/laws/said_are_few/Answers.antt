use Rattle.snapshot_reader.proofs.SaidFacts.{said_are_few}
use Rattle.snapshot_reader.proofs.laws.said_are_few.Goals as goal

pub returns : goal.returns
returns c = said_are_few
