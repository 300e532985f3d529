use Rattle.std.proofs.Common.{subst}
use Rattle.monitor_core.specs.Standing.{AreAcceptableTo}
use Rattle.watch_report.proofs.MonitorReplies.{has_named, named_line, refused_line}
use Rattle.watch_report.proofs.ClosedLines.{never_declared}
use Rattle.watch_report.proofs.telling.declare.Goals as goal

pub returns-in-Ok-clause-ok : goal.returns-in-Ok-clause-ok
returns-in-Ok-clause-ok c =
    let old = c.args.monitor.now in
    let new = c.declare.new.self in
    named_line c.args.options old c.args.name c.args.number new c.from_ref.result.now
    c.from_ref.ensures.value c.in-Ok.ensures.acceptable
    (has_named old new c.from_ref.result.now c.args.name c.from_ref.ensures.value
    c.in-Ok.ensures.setting c.declare.ensures.strangers c.in-Ok.ensures.declared
    c.declare.ensures.counted c.in-Ok.ensures.ok)

pub returns-in-Ok-clause-closed : goal.returns-in-Ok-clause-closed
returns-in-Ok-clause-closed c = λ closed.
    let m = c.args.monitor.now in
    absurd (never_declared m c.args.name
    (subst (AreAcceptableTo m) c.from_ref.ensures.value c.in-Ok.ensures.acceptable) closed)

pub returns-in-Ok-cause_of_name-clause-ok : goal.returns-in-Ok-cause_of_name-clause-ok
returns-in-Ok-cause_of_name-clause-ok c =
    refused_line c.args.options c.args.monitor.now c.args.name c.args.number c.declare.new.self
    c.from_ref.result.now c.in-Err.fault c.in-Ok-cause_of_name.cause c.refused.result
    c.from_ref.ensures.value c.in-Err.ensures.refused c.in-Ok-cause_of_name.ensures.cause
    c.in-Err.ensures.err c.refused.ensures
