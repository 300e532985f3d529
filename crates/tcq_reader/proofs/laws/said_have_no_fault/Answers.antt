use Rattle.tcq_reader.proofs.OneReading as reading
use Rattle.tcq_reader.proofs.laws.said_have_no_fault.Goals as goal

pub returns : goal.returns
returns c = reading.said_have_no_fault
