use Rattle.stream_report.proofs.ReportLaws.{cut_short}
use Rattle.audit_report.specs.Report.{auditing}
use Rattle.audit_report.proofs.OneText.{auditing_once}
use Rattle.audit_report.proofs.laws.cut_short.Goals as goal

pub returns : goal.returns
returns c = λ task. cut_short (auditing task) (auditing_once task)
