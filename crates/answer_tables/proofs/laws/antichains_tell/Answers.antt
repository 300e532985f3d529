use Rattle.answer_tables.proofs.CountedRuns.{antichains_told}
use Rattle.answer_tables.proofs.laws.antichains_tell.Goals as goal

pub returns : goal.returns
returns c = antichains_told
