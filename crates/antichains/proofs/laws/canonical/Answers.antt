use Rattle.antichains.proofs.Antichains.{same_antichain}
use Rattle.antichains.proofs.laws.canonical.Goals as goal

pub returns : goal.returns
returns c = same_antichain
