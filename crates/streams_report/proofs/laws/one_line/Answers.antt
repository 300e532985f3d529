use Rattle.streams_report.proofs.Events.{streaming_once}
use Rattle.streams_report.proofs.laws.one_line.Goals as goal

pub returns : goal.returns
returns c = λ setting. (streaming_once setting).0
