use Rattle.stream_report.specs.Told.{item_of}
use Rattle.watch_report.proofs.MonitorReplies.{watched_line}
use Rattle.watch_report.proofs.watching.WatcherReporter.report_line.Goals as goal

pub returns-in-Ok-clause-tells : goal.returns-in-Ok-clause-tells
returns-in-Ok-clause-tells c = λ state stands.
    watched_line c.args.self.now.options c.args.self.now.monitor c.tell.new.monitor
    (item_of c.args.line) c.args.number c.args.self.now.refused c.in-Ok.more
    c.args.gathered.now.items c.tell.new.gathered.items state stands c.in-Ok.ensures.ok
