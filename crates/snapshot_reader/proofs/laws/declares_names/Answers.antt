use Rattle.snapshot_reader.proofs.RefusedNames as names
use Rattle.snapshot_reader.proofs.laws.declares_names.Goals as goal

pub returns : goal.returns
returns c = record { declarable = names.declares_names; free = names.names_are_free }
