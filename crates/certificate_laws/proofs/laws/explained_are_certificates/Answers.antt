use Rattle.certificate_laws.proofs.ExplainedProofs.{explained_are_certificates}
use Rattle.certificate_laws.proofs.laws.explained_are_certificates.Goals as goal

pub returns : goal.returns
returns c = explained_are_certificates
