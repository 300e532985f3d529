use Rattle.owl_reader.proofs.StandingLemmas as standing
use Rattle.owl_reader.proofs.laws.says_statements.Goals as goal

pub returns : goal.returns
returns c = standing.says_statements
