use Rattle.dl_syntax.proofs.SaturationLaws.{saturation_is_closed}
use Rattle.dl_syntax.proofs.laws.saturation_is_closed.Goals as goal

pub returns : goal.returns
returns c = saturation_is_closed
