use Rattle.stream_report.proofs.ReportLaws.{one_report}
use Rattle.audit_report.specs.Report.{auditing}
use Rattle.audit_report.proofs.OneText.{auditing_once}
use Rattle.audit_report.proofs.laws.one_report.Goals as goal

pub returns : goal.returns
returns c = λ task. one_report (auditing task) (auditing_once task)
