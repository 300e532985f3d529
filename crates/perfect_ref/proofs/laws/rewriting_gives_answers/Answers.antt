use Rattle.perfect_ref.proofs.Answering.{rewriting_gives_answers}
use Rattle.perfect_ref.proofs.laws.rewriting_gives_answers.Goals as goal

pub returns : goal.returns
returns c = rewriting_gives_answers
