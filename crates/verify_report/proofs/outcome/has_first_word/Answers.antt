use Rattle.std.proofs.Common.{sym, ◌∙◌, subst}
use Rattle.std.proofs.lemmas.List.{append_cancel_left}
use Rattle.run_proofs.specs.Words.{EndsWord}
use Rattle.verify_report.proofs.outcome.has_first_word.Goals as goal

pub returns-in-Some : goal.returns-in-Some
returns-in-Some c = (
  λ ends. (c.in-Some.rest.now, c.ends_word.ensures.0 ends, c.in-Some.ensures),
  λ has. c.ends_word.ensures.1 (subst EndsWord (append_cancel_left c.args.word.now has.0
      c.in-Some.rest.now (sym has.2 ∙ c.in-Some.ensures)) has.1),
)
