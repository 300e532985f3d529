use Rattle.std.proofs.Common.{◌≡◌, true, inl, inr}
use Rattle.std.proofs.lemmas.Result.{IfOk-weaker}
use Rattle.verify_report.proofs.outcome.is_passed_over.Goals as goal

pub returns : goal.returns
returns c =
    IfOk-weaker c.says_nothing.result _ _
    (λ answer says. (
      λ it. inr (inr (says.0 it)),
      λ over. elim over [
        | inl line ↦ let has : c.has_first_word.result ≡ true = c.has_first_word.ensures.1 line in
            absurd (cc)
        | inr (inl end) ↦ let has : c.has_first_word-else-has_first_word.result ≡ true =
            c.has_first_word-else-has_first_word.ensures.1 end in absurd (cc)
        | inr (inr silent) ↦ says.1 silent
      ],
    ))
    c.says_nothing.ensures
