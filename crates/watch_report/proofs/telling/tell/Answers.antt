use Rattle.std.proofs.Common.{subst}
use Rattle.std.specs.declared.option.Option.{Option}
use Rattle.report_text.specs.declared.event.Event.{Event}
use Rattle.stream_report.specs.Told.{item_of}
use Rattle.watch_report.specs.Monitoring.{MonitorTells, line_comes_to}
use Rattle.watch_report.specs.Replies.{told_by}
use Rattle.watch_report.proofs.MonitorReplies.{gathers_event}
use Rattle.watch_report.proofs.telling.tell.Goals as goal

pub returns-in-Ok-clause-ok : goal.returns-in-Ok-clause-ok
returns-in-Ok-clause-ok c =
    let old = c.args.monitor.now in
    let new = c.ask.new.monitor in
    gathers_event c.args.options old new (item_of c.args.line) c.args.number c.in-Ok-Some.event
    c.args.gathered.now.items c.gather.new.gathered.items c.refusals.result
    (subst (λ (e : Option Event). MonitorTells c.args.options old c.args.number
    (line_comes_to old c.args.options.form (item_of c.args.line)) (told_by e) new)
    c.in-Ok-Some.field-0-is c.in-Ok-Some.ensures.ok)
    c.in-Ok.ensures.bytes c.refusals.ensures.exact
