use Rattle.audit_report.proofs.OneText.{audits_once}
use Rattle.audit_report.proofs.laws.one_line.Goals as goal

pub returns : goal.returns
returns c = audits_once
