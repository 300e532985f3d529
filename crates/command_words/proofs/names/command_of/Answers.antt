use Rattle.std.proofs.Common.{◌≡◌, ◌∙◌, sym, true, false}
use Rattle.command_words.specs.Commands.{command_of, has_barred_word, texts_of}
use Rattle.command_words.proofs.Barred.{barred_is}
use Rattle.command_words.proofs.names.command_of.Goals as goal

pub returns-then-has_barred : goal.returns-then-has_barred
unfolding command_of
returns-then-has_barred c =
    let barred : has_barred_word (texts_of c.args.words.now) ≡ true =
    sym (barred_is c.args.words.now) ∙ sym c.has_barred.ensures ∙ c.if-has_barred.true in
    rw barred

pub returns-else-has_barred : goal.returns-else-has_barred
unfolding command_of
returns-else-has_barred c =
    let barred : has_barred_word (texts_of c.args.words.now) ≡ false =
    sym (barred_is c.args.words.now) ∙ sym c.has_barred.ensures ∙ c.if-has_barred.false in
    rw barred c.first_command.ensures
