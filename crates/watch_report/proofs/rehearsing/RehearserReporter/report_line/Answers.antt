use Rattle.std.proofs.Common.{Some, None, subst}
use Rattle.std.specs.declared.option.Option.{Option}
use Rattle.report_text.specs.declared.event.Event.{Event}
use Rattle.stream_report.specs.Told.{item_of}
use Rattle.watch_report.specs.declared.options.Options.{Options}
use Rattle.watch_report.specs.Monitoring.{MonitorTells, line_comes_to}
use Rattle.watch_report.specs.Replies.{told_by}
use Rattle.watch_report.proofs.RehearsedLines.{rehearsed_event, rehearsed_nothing}
use Rattle.watch_report.proofs.rehearsing.RehearserReporter.report_line.Goals as goal

pub returns-in-Ok-Some-clause-tells : goal.returns-in-Ok-Some-clause-tells
returns-in-Ok-Some-clause-tells c = λ state stands.
    let old = c.args.self.now.monitor in
    let new = c.ask.new.monitor in
    let line = item_of c.args.line in
    rehearsed_event old new line c.args.number c.args.self.now.refused c.refusals.result
    c.in-Ok-Some.event c.args.gathered.now.items state stands.0 stands.1
    c.refusals.ensures.exact
    (subst (λ (o : Options). MonitorTells o old c.args.number (line_comes_to old o.form line)
    (told_by (Some c.in-Ok-Some.event)) new) c.plain.ensures
    (subst (λ (e : Option Event). MonitorTells c.plain.result old c.args.number
    (line_comes_to old c.plain.result.form line) (told_by e) new)
    c.in-Ok-Some.field-0-is c.in-Ok-Some.ensures.ok))

pub returns-in-Ok-None-clause-tells : goal.returns-in-Ok-None-clause-tells
returns-in-Ok-None-clause-tells c = λ state stands.
    let old = c.args.self.now.monitor in
    let new = c.ask.new.monitor in
    let line = item_of c.args.line in
    rehearsed_nothing old new line c.args.number c.args.self.now.refused
    (told_by c.args.self.now.last) c.args.gathered.now.items state stands.0 stands.1 stands.2
    (subst (λ (o : Options). MonitorTells o old c.args.number (line_comes_to old o.form line)
    (told_by None) new) c.plain.ensures
    (subst (λ (e : Option Event). MonitorTells c.plain.result old c.args.number
    (line_comes_to old c.plain.result.form line) (told_by e) new)
    c.in-Ok-None.field-0-is c.in-Ok-None.ensures.ok))
