-- Answers to the goals of `holding_is_a_reading`, from the lemmas.
use Rattle.models_over_time.proofs.Monotony.{holding_is_a_reading}
use Rattle.models_over_time.proofs.laws.holding_is_a_reading.Goals as goal

pub returns : goal.returns
returns c = holding_is_a_reading
