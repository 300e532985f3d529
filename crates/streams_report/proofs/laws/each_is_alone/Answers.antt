use Rattle.marked_lines.specs.Laws.{alone, unmarked}
use Rattle.marked_lines.proofs.AloneLaw.{each_is_alone}
use Rattle.watch_report.specs.Report.{watches}
use Rattle.streams_report.specs.Report.{watch_of, ends_alone, closed_start}
use Rattle.streams_report.proofs.Events.{watch_whole, end_whole, with_heading}
use Rattle.streams_report.proofs.laws.each_is_alone.Goals as goal

pub returns : goal.returns
returns c = λ setting lines told name report among.
    with_heading setting closed_start (alone name lines) (unmarked name told)
    (each_is_alone (watches (watch_of setting)) (ends_alone setting) closed_start
    (watch_whole setting) (end_whole setting) lines told name report among)
