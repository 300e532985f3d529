use Rattle.std.proofs.Common.{◌≡◌, [], refl, subst}
use Rattle.dl_syntax.specs.Ontology.{Declared}
use Rattle.snapshot_reader.specs.Said.{said, nothing, names, says}
use Rattle.snapshot_reader.proofs.RefusedNames.{declares_names}
use Rattle.monitor_core.specs.Standing.{setting_of}
use Rattle.watch_report.specs.Outcome.{skip}
use Rattle.watch_report.specs.Replies.{IsRefusedFor}
use Rattle.watch_report.proofs.Sayings.{says_over}
use Rattle.watch_report.proofs.Spelled.{cause_spelled}
use Rattle.watch_report.proofs.MonitorReplies.{refused_text, said_so}
use Rattle.watch_report.proofs.ReplyLaws.{refused_names}
use Rattle.watch_report.proofs.telling.ask_text.Goals as goal

pub returns-in-Ok-Skip-clause-ok : goal.returns-in-Ok-Skip-clause-ok
returns-in-Ok-Skip-clause-ok c =
    let is : said c.ontology.result.now c.args.options.form c.args.line.now ≡ nothing =
    rw c.in-Ok-Skip.field-0-is at c.in-Ok-Skip.ensures in
    said_so c.args.options c.args.monitor.now c.args.monitor.now c.args.line.now c.args.number
    c.ontology.result.now c.ontology.ensures nothing [] is
    (record { outcome = skip; comes = refl; replies = (refl, refl) })

pub declare-requires-clause-name : goal.declare-requires-clause-name
declare-requires-clause-name c =
    let is : said c.ontology.result.now c.args.options.form c.args.line.now
    ≡ names c.in-Ok-Individual.name = rw c.in-Ok-Individual.field-0-is at
    c.in-Ok-Individual.ensures in
    declares_names c.ontology.result.now c.args.options.form c.args.line.now
    c.in-Ok-Individual.name is

pub take-requires : goal.take-requires
take-requires c =
    let is : said c.ontology.result.now c.args.options.form c.args.line.now
    ≡ says c.in-Ok-Facts.snapshot = rw c.in-Ok-Facts.field-0-is at c.in-Ok-Facts.ensures in
    says_over (setting_of c.args.monitor.now).ontology c.args.options.form c.args.line.now
    c.in-Ok-Facts.snapshot (subst (λ (o : Declared). said o c.args.options.form c.args.line.now
    ≡ says c.in-Ok-Facts.snapshot) c.ontology.ensures is)

pub returns-in-Ok-cause_of-clause-names : goal.returns-in-Ok-cause_of-clause-names
returns-in-Ok-cause_of-clause-names c =
    let setting = setting_of c.args.monitor.now in
    let is : IsRefusedFor (said setting.ontology c.args.options.form c.args.line.now)
    c.in-Ok-cause_of.cause =
    subst (λ (o : Declared). IsRefusedFor (said o c.args.options.form c.args.line.now)
    c.in-Ok-cause_of.cause) c.ontology.ensures
    (c.in-Ok-cause_of.ensures (said c.ontology.result.now c.args.options.form c.args.line.now)
    c.in-Err.ensures) in
    refused_names setting.ontology setting.queries c.args.number c.in-Ok-cause_of.cause
    c.refused.result c.refused.ensures c.requires
    (cause_spelled setting.ontology c.args.options.form c.args.line.now c.in-Ok-cause_of.cause
    is)

pub returns-in-Ok-cause_of-clause-ok : goal.returns-in-Ok-cause_of-clause-ok
returns-in-Ok-cause_of-clause-ok c =
    refused_text c.args.options c.args.monitor.now c.args.monitor.now c.args.line.now c.args.number
    c.ontology.result.now c.ontology.ensures c.in-Ok-cause_of.cause c.refused.result
    (c.in-Ok-cause_of.ensures (said c.ontology.result.now c.args.options.form c.args.line.now)
    c.in-Err.ensures) refl c.refused.ensures
