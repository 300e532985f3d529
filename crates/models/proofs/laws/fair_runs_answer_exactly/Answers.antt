-- Answers to the goals of `fair_runs_answer_exactly`, from the lemmas.
use Rattle.models.proofs.Canonical.{fair_runs_answer_exactly}
use Rattle.models.proofs.laws.fair_runs_answer_exactly.Goals as goal

pub returns : goal.returns
returns c = fair_runs_answer_exactly
