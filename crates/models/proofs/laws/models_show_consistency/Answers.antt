-- Answers to the goals of `models_show_consistency`, from the lemmas.
use Rattle.models.proofs.IntoModels.{models_show_consistency}
use Rattle.models.proofs.laws.models_show_consistency.Goals as goal

pub returns : goal.returns
returns g c = models_show_consistency _
