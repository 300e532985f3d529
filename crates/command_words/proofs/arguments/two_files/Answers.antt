use Rattle.std.proofs.Common.{◌∙◌, ap₂}
use Rattle.std.proofs.lemmas.Result.{IfOk-weaker}
use Rattle.clap.specs.Words.{with_rule}
use Rattle.command_words.proofs.arguments.two_files.Goals as goal

pub returns : goal.returns
returns c =
    IfOk-weaker c.arg.result _ _ (λ r h.
    h.shape c.flag_argument-owl.ensures.local ∙ ap₂ with_rule c.in_ok-two_places.ensures
    c.flag_argument-owl.ensures.rule) c.arg.ensures
