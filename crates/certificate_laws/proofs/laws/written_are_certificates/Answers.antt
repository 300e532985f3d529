use Rattle.certificate_laws.proofs.CertificateParts.{certificate}
use Rattle.certificate_laws.proofs.laws.written_are_certificates.Goals as goal

pub returns : goal.returns
returns c = certificate
