use Rattle.run_proofs.proofs.Steps.{steps_make_run}
use Rattle.run_proofs.proofs.laws.steps_make_run.Goals as goal

pub returns : goal.returns
returns c = steps_make_run
