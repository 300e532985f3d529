use Rattle.answer_tables.proofs.CountedRuns.{runs_told}
use Rattle.answer_tables.proofs.laws.runs_are_told.Goals as goal

pub returns : goal.returns
returns c = runs_told
