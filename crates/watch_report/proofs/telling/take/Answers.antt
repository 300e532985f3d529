use Rattle.std.proofs.Common.{Err, ◌∙◌, ap}
use Rattle.monitor_core.specs.declared.accept_fault.AcceptFault.{AcceptFault}
use Rattle.watch_report.proofs.MonitorReplies.{all_accepted, all_refused}
use Rattle.watch_report.proofs.OwnSettings.{own_stays}
use Rattle.watch_report.proofs.ClosedLines.{same_watched}
use Rattle.watch_report.proofs.telling.take.Goals as goal

pub returns-in-Err-clause-ok : goal.returns-in-Err-clause-ok
returns-in-Err-clause-ok c =
    all_refused c.args.options c.args.monitor.now c.accept.new.self c.args.snapshot.now
    c.args.number c.in-Err.fault c.refusal.result
    (λ clash is. c.accept.ensures.contradiction clash
    (c.in-Err.is ∙ ap (λ (f : AcceptFault). Err f) is))
    c.in-Err.ensures.err c.refusal.ensures.refuses

pub returns-in-Ok-clause-ok : goal.returns-in-Ok-clause-ok
returns-in-Ok-clause-ok c =
    all_accepted c.args.options c.args.monitor.now c.accept.new.self c.args.snapshot.now
    c.args.number c.in-Ok.answers.items c.accepted.result c.in-Ok.ensures.consistent
    (record {
      setting = c.accept.ensures.setting;
      strangers = c.accept.ensures.strangers;
      declared = c.accept.ensures.declared;
      counted = c.in-Ok.ensures.counted;
      rows = c.in-Ok.ensures.rows;
      takes = c.in-Ok.ensures.ok;
    }) c.accepted.ensures.tells

pub returns-in-Ok-clause-own : goal.returns-in-Ok-clause-own
returns-in-Ok-clause-own c = own_stays c.args.monitor.now c.accept.new.self c.accept.ensures.setting
    c.accept.ensures.declared

pub returns-in-Err-clause-own : goal.returns-in-Err-clause-own
returns-in-Err-clause-own c = own_stays c.args.monitor.now c.accept.new.self
    c.accept.ensures.setting c.accept.ensures.declared

pub returns-in-Ok-clause-watched : goal.returns-in-Ok-clause-watched
returns-in-Ok-clause-watched c = same_watched c.args.monitor.now c.accept.new.self
    c.accept.ensures.plan c.accept.ensures.strangers c.accept.ensures.declared

pub returns-in-Err-clause-watched : goal.returns-in-Err-clause-watched
returns-in-Err-clause-watched c = same_watched c.args.monitor.now c.accept.new.self
    c.accept.ensures.plan c.accept.ensures.strangers c.accept.ensures.declared
