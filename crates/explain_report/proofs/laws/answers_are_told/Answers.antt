use Rattle.explain_report.proofs.Telling.{answers_are_told}
use Rattle.explain_report.proofs.laws.answers_are_told.Goals as goal

pub returns : goal.returns
returns c = answers_are_told
