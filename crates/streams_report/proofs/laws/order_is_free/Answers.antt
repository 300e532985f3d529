use Rattle.marked_lines.proofs.AloneLaw.{order_is_free}
use Rattle.watch_report.specs.Report.{watches}
use Rattle.streams_report.specs.Report.{watch_of, ends_alone, closed_start}
use Rattle.streams_report.proofs.Events.{watch_whole, end_whole, alone_once}
use Rattle.streams_report.proofs.laws.order_is_free.Goals as goal

pub returns : goal.returns
returns c = λ setting.
    order_is_free (watches (watch_of setting)) (ends_alone setting) closed_start
    (watch_whole setting) (end_whole setting) (alone_once setting)
