use Rattle.verify_report.proofs.OneText.{verifies_once}
use Rattle.verify_report.proofs.laws.one_line.Goals as goal

pub returns : goal.returns
returns c = verifies_once
