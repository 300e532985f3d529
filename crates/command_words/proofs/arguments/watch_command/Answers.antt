use Rattle.std.proofs.Common.{◌∙◌, ap₂}
use Rattle.std.proofs.lemmas.Result.{IfOk-weaker}
use Rattle.clap.specs.Words.{with_rule}
use Rattle.command_words.specs.Commands.{app_of_command}
use Rattle.command_words.proofs.arguments.watch_command.Goals as goal

pub returns : goal.returns
unfolding app_of_command
returns c =
    let one = c.in_ok-arg.ensures.shape c.value_argument-form.ensures.local ∙ ap₂ with_rule
    c.in_ok-two_files.ensures c.value_argument-form.ensures.rule in
    let two = c.in_ok-arg-2.ensures.shape c.value_argument-report.ensures.local ∙ ap₂ with_rule one
    c.value_argument-report.ensures.rule in
    IfOk-weaker c.arg-3.result _ _ (λ r h.
    h.shape c.flag_argument-sizes.ensures.local ∙ ap₂ with_rule two
    c.flag_argument-sizes.ensures.rule) c.arg-3.ensures
