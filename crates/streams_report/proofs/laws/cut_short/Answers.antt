use Rattle.stream_report.proofs.ReportLaws.{cut_short}
use Rattle.streams_report.specs.Report.{streaming}
use Rattle.streams_report.proofs.Events.{streaming_once}
use Rattle.streams_report.proofs.laws.cut_short.Goals as goal

pub returns : goal.returns
returns c = λ setting. cut_short (streaming setting) (streaming_once setting)
