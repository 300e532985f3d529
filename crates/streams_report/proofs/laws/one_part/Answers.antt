use Rattle.stream_report.proofs.ReportLaws.{one_part}
use Rattle.streams_report.specs.Report.{streaming}
use Rattle.streams_report.proofs.Events.{streaming_once}
use Rattle.streams_report.proofs.laws.one_part.Goals as goal

pub returns : goal.returns
returns c = λ setting. one_part (streaming setting) (streaming_once setting)
