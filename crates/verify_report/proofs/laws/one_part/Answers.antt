use Rattle.stream_report.proofs.ReportLaws.{one_part}
use Rattle.verify_report.specs.Report.{verifying}
use Rattle.verify_report.proofs.OneText.{verifying_once}
use Rattle.verify_report.proofs.laws.one_part.Goals as goal

pub returns : goal.returns
returns c = λ task apart. one_part (verifying task) (verifying_once task apart)
