use Rattle.std.proofs.Common.{[], ◌∷◌, refl, ap}
use Rattle.report_text.specs.declared.event.Event.{Event}
use Rattle.report_text.specs.declared.item.Cause.TheVariants.{TooLong}
use Rattle.watch_report.specs.Outcome.{refused}
use Rattle.watch_report.proofs.telling.ask.Goals as goal

pub returns-in-TooLong-clause-ok : goal.returns-in-TooLong-clause-ok
returns-in-TooLong-clause-ok c = rw c.in-TooLong.is (record {
  outcome = refused TooLong;
  comes = refl;
  replies = (ap (λ (e : Event). e ∷ []) c.refused.ensures, refl);
})
