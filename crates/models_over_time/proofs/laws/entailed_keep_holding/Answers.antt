-- Answers to the goals of `entailed_keep_holding`, from the lemmas.
use Rattle.models_over_time.proofs.Changes.{entailed_keep_holding}
use Rattle.models_over_time.proofs.laws.entailed_keep_holding.Goals as goal

pub returns : goal.returns
returns c = entailed_keep_holding
