use Rattle.stream_report.proofs.ReportLaws.{cut_short}
use Rattle.verify_report.specs.Report.{verifying}
use Rattle.verify_report.proofs.OneText.{verifying_once}
use Rattle.verify_report.proofs.laws.cut_short.Goals as goal

pub returns : goal.returns
returns c = λ task apart. cut_short (verifying task) (verifying_once task apart)
