use Rattle.certificate_laws.proofs.AllTexts.{texts_are_verified}
use Rattle.certificate_laws.proofs.laws.texts_are_verified.Goals as goal

pub returns : goal.returns
returns c = texts_are_verified
