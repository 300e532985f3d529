use Rattle.saturate.proofs.Kept.{saturation_is_whole}
use Rattle.saturate.proofs.laws.saturation_is_whole.Goals as goal

pub returns : goal.returns
returns c = saturation_is_whole
