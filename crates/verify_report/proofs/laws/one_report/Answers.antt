use Rattle.stream_report.proofs.ReportLaws.{one_report}
use Rattle.verify_report.specs.Report.{verifying}
use Rattle.verify_report.proofs.OneText.{verifying_once}
use Rattle.verify_report.proofs.laws.one_report.Goals as goal

pub returns : goal.returns
returns c = λ task apart. one_report (verifying task) (verifying_once task apart)
