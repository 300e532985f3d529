use Rattle.monitor_core.specs.Exchanging.{setting_under}
use Rattle.marked_lines.specs.Mixing.{Mixed}
use Rattle.watch_report.specs.Report.{Standing}
use Rattle.streams_report.specs.Streaming.{IsMixed, ClosesFirst}
use Rattle.streams_report.proofs.streamer.Streamer.finish_each.Given as goal

abbrev pub invariant-loop-stream : goal.invariant-loop-stream
invariant-loop-stream l = (mixed : Mixed Standing)
    → IsMixed l.self.set l.self.counts l.self.unowned mixed
    → ClosesFirst (setting_under l.self.set.watched) l.stream mixed.streams
    l.initial.gathered.items l.gathered.items
