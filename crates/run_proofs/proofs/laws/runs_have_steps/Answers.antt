use Rattle.run_proofs.proofs.Places.{runs_have_steps}
use Rattle.run_proofs.proofs.laws.runs_have_steps.Goals as goal

pub returns : goal.returns
returns c = runs_have_steps
