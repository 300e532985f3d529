use Rattle.std.proofs.Common.{◌++◌, ◌∙◌, ap₂, List}
use Rattle.std.proofs.lemmas.Result.{on_ok_weaker}
use Rattle.dl_syntax.specs.Ontology.{Declared}
use Rattle.tcq_syntax.specs.Tcq.{Tcq}
use Rattle.report_text.specs.Events.{event_text}
use Rattle.watch_report.proofs.ReplyLaws.{gathered_event}
use Rattle.watch_report.proofs.telling.gather.Goals as goal

pub returns-clause-bytes : goal.returns-clause-bytes
returns-clause-bytes c =
    on_ok_weaker c.append_event.result (λ is.
    is ∙ ap₂ (λ (o : Declared) (queries : List Tcq). c.args.gathered.now.items
    ++ event_text c.args.options.report o queries c.args.event.now) c.ontology.ensures
    c.queries.ensures) c.append_event.ensures.ok

pub returns-clause-history : goal.returns-clause-history
returns-clause-history c =
    on_ok_weaker c.append_event.result (λ is history stands.
    gathered_event c.args.options c.args.monitor.now history c.args.event.now
    c.args.gathered.now.items c.append_event.new.out.items stands
    (is ∙ ap₂ (λ (o : Declared) (queries : List Tcq). c.args.gathered.now.items
    ++ event_text c.args.options.report o queries c.args.event.now) c.ontology.ensures
    c.queries.ensures)) c.append_event.ensures.ok
