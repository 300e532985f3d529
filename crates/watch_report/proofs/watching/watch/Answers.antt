use Rattle.std.proofs.Common.{refl}
use Rattle.stream_report.specs.Outside.{ports_of}
use Rattle.watch_report.specs.Monitoring.{watched_from}
use Rattle.watch_report.proofs.LastMonitors.{last_monitor}
use Rattle.watch_report.proofs.StoodFor.{monitors_tell}
use Rattle.watch_report.proofs.watching.watch.Goals as goal

pub returns-clause-ends : goal.returns-clause-ends
returns-clause-ends g c =
    let run = c.report_stream-ending in
    let last = run.new.reporter in
    last_monitor c.args.options c.args.monitor last.monitor last.refused run.result
    (ports_of g.S.Source g.K.Sink c.args.input.now c.args.out.now)
    (ports_of g.S.Source g.K.Sink run.new.input run.new.out)
    (run.ensures.stands (watched_from c.args.monitor) refl)

pub returns-clause-history : goal.returns-clause-history
returns-clause-history g c = λ history stands.
    let run = c.report_stream-ending in
    monitors_tell c.args.options run.result c.args.monitor run.new.reporter.monitor history
    (ports_of g.S.Source g.K.Sink c.args.input.now c.args.out.now)
    (ports_of g.S.Source g.K.Sink run.new.input run.new.out) stands (returns-clause-ends g c)
