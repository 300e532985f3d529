-- Answers to the goals of `has_fair_runs`, from the lemmas.
use Rattle.models.proofs.FairRuns.{has_fair_runs}
use Rattle.models.proofs.laws.has_fair_runs.Goals as goal

pub returns : goal.returns
returns c = has_fair_runs
