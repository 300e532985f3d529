use Rattle.std.proofs.Common.{◌≡◌, ◌<◌, ◌^◌, sym, ◌∙◌, arith, decimal}
use Rattle.std.proofs.lemmas.Fmt.{decimal_injective}
use Rattle.checkpoint_reader.proofs.Cuts.{decimal_no_space}
use Rattle.checkpoint_reader.proofs.Items.{word_parts, small_set}
use Rattle.checkpoint_reader.proofs.lists.first_set.Goals as goal

pub returns-in_default-read_number : goal.returns-in_default-read_number
returns-in_default-read_number c set more small stops is =
    let parts = word_parts c.args.text.now c.in-Some.rest.now c.word_of.result.0.now
    c.word_of.result.1.now c.in-Some.ensures c.word_of.ensures.cut c.word_of.ensures.word
    c.word_of.ensures.ends (decimal set) more (decimal_no_space set (small_set set small)) stops
    is in
    c.in_default-read_number.ensures set (small_set set small) parts.0

pub returns-else-number-lt256 : goal.returns-else-number-lt256
returns-else-number-lt256 c set more small stops is =
    let parts = word_parts c.args.text.now c.in-Some.rest.now c.word_of.result.0.now
    c.word_of.result.1.now c.in-Some.ensures c.word_of.ensures.cut c.word_of.ensures.word
    c.word_of.ensures.ends (decimal set) more (decimal_no_space set (small_set set small)) stops
    is in
    let fits : c.in-Some-read_number.number < 2 ^ 64 = omega arith in
    let same : c.in-Some-read_number.number ≡ set =
    decimal_injective c.in-Some-read_number.number set fits (small_set set small)
    (sym c.in-Some-read_number.ensures ∙ parts.0) in
    absurd (omega (arith, same, small, c.if-number-lt256.false))
