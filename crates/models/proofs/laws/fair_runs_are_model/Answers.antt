-- Answers to the goals of `fair_runs_are_model`, from the lemmas.
use Rattle.models.proofs.Canonical.{fair_runs_are_model}
use Rattle.models.proofs.laws.fair_runs_are_model.Goals as goal

pub returns : goal.returns
returns c = fair_runs_are_model
