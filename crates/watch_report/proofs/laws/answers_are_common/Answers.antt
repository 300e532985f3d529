use Rattle.watch_report.proofs.InModels.{common_answers}
use Rattle.watch_report.proofs.laws.answers_are_common.Goals as goal

pub returns : goal.returns
returns c = common_answers
