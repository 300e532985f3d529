use Rattle.ucq_join.proofs.Alike.{answers_alike}
use Rattle.ucq_join.proofs.laws.answers_are_alike.Goals as goal

pub returns : goal.returns
returns c = answers_alike
