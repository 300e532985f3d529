use Rattle.std.proofs.Common.{◌∙◌, ap₂}
use Rattle.std.proofs.lemmas.Result.{IfOk-weaker}
use Rattle.clap.specs.Words.{with_rule}
use Rattle.command_words.proofs.arguments.two_places.Goals as goal

pub returns : goal.returns
returns c =
    let one = c.in_ok-arg.ensures.shape c.place_argument-first.ensures.local ∙ ap₂ with_rule
    c.bare_command.ensures c.place_argument-first.ensures.rule in
    IfOk-weaker c.arg-2.result _ _ (λ r h.
    h.shape c.place_argument-second.ensures.local ∙ ap₂ with_rule one
    c.place_argument-second.ensures.rule) c.arg-2.ensures
