use Rattle.snapshot_reader.proofs.RefusedNames as names
use Rattle.snapshot_reader.proofs.laws.refuses_names.Goals as goal

pub returns : goal.returns
returns c = names.refuses_names
