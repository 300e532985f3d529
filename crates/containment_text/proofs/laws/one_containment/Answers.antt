use Rattle.containment_text.proofs.OnePairs.{one_containment}
use Rattle.containment_text.proofs.laws.one_containment.Goals as goal

pub returns : goal.returns
returns c = one_containment
