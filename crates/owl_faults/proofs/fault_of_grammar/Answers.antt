use Rattle.owl_faults.proofs.Faults as faults
use Rattle.owl_faults.proofs.fault_of_grammar.Goals as goal

pub returns : goal.returns
returns c = faults.fault_of_grammar
