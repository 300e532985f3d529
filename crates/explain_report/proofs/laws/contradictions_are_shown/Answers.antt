use Rattle.explain_report.proofs.Telling.{contradictions_are_shown}
use Rattle.explain_report.proofs.laws.contradictions_are_shown.Goals as goal

pub returns : goal.returns
returns c = contradictions_are_shown
