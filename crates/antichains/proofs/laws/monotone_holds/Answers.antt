use Rattle.antichains.proofs.Antichains.{IsMonotone-holds}
use Rattle.antichains.proofs.laws.monotone_holds.Goals as goal

pub returns : goal.returns
returns c = IsMonotone-holds
