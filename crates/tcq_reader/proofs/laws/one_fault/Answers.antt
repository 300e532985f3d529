use Rattle.tcq_reader.proofs.OneReading as reading
use Rattle.tcq_reader.proofs.laws.one_fault.Goals as goal

pub returns : goal.returns
returns c = reading.one_fault
