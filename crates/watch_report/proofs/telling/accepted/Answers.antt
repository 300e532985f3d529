use Rattle.std.proofs.Common.{ℕ, List, [], ◌∷◌, ap₂}
use Rattle.dl_syntax.specs.Rows.{Relation}
use Rattle.report_text.specs.declared.event.Event.TheVariants.{Accepted}
use Rattle.monitor_core.specs.Standing.{setting_of}
use Rattle.watch_report.proofs.ReplyLaws.{answered_all}
use Rattle.watch_report.proofs.telling.accepted.Goals as goal

pub returns-in-Ok-clause-answers : goal.returns-in-Ok-clause-answers
returns-in-Ok-clause-answers c =
    answered_all (setting_of c.args.monitor.now).ontology (setting_of c.args.monitor.now).queries
    c.in-Ok.kept c.args.answers.items c.from_vec.result c.from_vec.ensures c.requires
    c.in-Ok.ensures.many

pub returns-in-Ok-clause-tells : goal.returns-in-Ok-clause-tells
returns-in-Ok-clause-tells c = λ old snapshot taken. record {
  relations = c.args.answers.items;
  taken = taken;
  kept = c.in-Ok.kept;
  there = c.in-Ok.ensures.there;
  sizes = c.in-Ok.ensures.sizes;
  is = ap₂ (λ (n : ℕ) (relations : List Relation).
      Accepted c.args.line n relations c.in-Ok.kept ∷ []) c.count.ensures.state c.from_vec.ensures;
}
