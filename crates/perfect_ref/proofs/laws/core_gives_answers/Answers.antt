use Rattle.perfect_ref.proofs.Answering.{core_gives_answers}
use Rattle.perfect_ref.proofs.laws.core_gives_answers.Goals as goal

pub returns : goal.returns
returns c = core_gives_answers
