use Rattle.std.proofs.Common.{◌≡◌, ◌<◌, ◌≤◌, true, false, sym, rules}
use Rattle.command_words.specs.Numbers.{is_number}
use Rattle.command_words.proofs.Numerals.{no_number, number_above, number_read, number_unread}
use Rattle.command_words.proofs.numbers.read_number.Goals as goal

pub returns-then-not-is_number-clause-number : goal.returns-then-not-is_number-clause-number
returns-then-not-is_number-clause-number c =
    let not : is_number c.args.word.now ≡ false = cc in
    sym (no_number c.args.limit c.args.word.now not)

pub returns-then-number-limit-clause-number : goal.returns-then-number-limit-clause-number
returns-then-number-limit-clause-number c =
    let is : is_number c.args.word.now ≡ true = cc in
    let below : c.in-Ok.number ≤ c.args.limit = search rules in
    sym (number_read c.args.limit c.args.word.now c.parse.result c.in-Ok.number is
    c.parse.ensures.value.0 c.in-Ok.is below)

pub returns-else-number-limit-clause-number : goal.returns-else-number-limit-clause-number
returns-else-number-limit-clause-number c =
    let is : is_number c.args.word.now ≡ true = cc in
    let above : c.args.limit < c.in-Ok.number = search rules in
    sym (number_above c.args.limit c.args.word.now c.parse.result c.in-Ok.number is
    c.parse.ensures.value.0 c.in-Ok.is above)

pub returns-in_default-clause-number : goal.returns-in_default-clause-number
returns-in_default-clause-number c =
    let is : is_number c.args.word.now ≡ true = cc in
    sym (number_unread c.args.limit c.args.word.now c.parse.result c.in_default.field-0
    c.ranges.limit.fits is c.parse.ensures.value.0 c.in_default.is)
