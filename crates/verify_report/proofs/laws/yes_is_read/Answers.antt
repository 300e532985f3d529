use Rattle.verify_report.proofs.YesRead.{yes_is_read}
use Rattle.verify_report.proofs.laws.yes_is_read.Goals as goal

pub returns : goal.returns
returns c = yes_is_read
