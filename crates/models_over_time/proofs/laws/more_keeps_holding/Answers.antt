-- Answers to the goals of `more_keeps_holding`, from the lemmas.
use Rattle.models_over_time.proofs.Changes.{more_keeps_holding}
use Rattle.models_over_time.proofs.laws.more_keeps_holding.Goals as goal

pub returns : goal.returns
returns c = more_keeps_holding
