use Rattle.perfect_ref.proofs.Answering.{core_answers_saturation}
use Rattle.perfect_ref.proofs.laws.core_answers_saturation.Goals as goal

pub returns : goal.returns
returns c = core_answers_saturation
