use Rattle.explain_report.proofs.Telling.{one_order}
use Rattle.explain_report.proofs.laws.one_order.Goals as goal

pub returns : goal.returns
returns c = one_order
