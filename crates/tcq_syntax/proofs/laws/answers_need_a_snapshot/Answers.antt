use Rattle.tcq_syntax.proofs.OneList.{answers_need_a_snapshot}
use Rattle.tcq_syntax.proofs.laws.answers_need_a_snapshot.Goals as goal

pub returns : goal.returns
returns c = answers_need_a_snapshot
