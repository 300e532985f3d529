use Rattle.verify_report.proofs.Accepting.{proofs_are_told}
use Rattle.verify_report.proofs.laws.proofs_are_told.Goals as goal

pub returns : goal.returns
returns c = proofs_are_told
