use Rattle.std.proofs.Common.{arith}
use Rattle.run_proofs.proofs.AskedLines.{no_number, no_leaf}
use Rattle.run_proofs.proofs.asking.read_leaf.Goals as goal

pub returns-in_default-read_number : goal.returns-in_default-read_number
returns-in_default-read_number c =
    no_number c.args.queries.now c.args.query c.args.text.now c.in-Some.behind.now
    c.first_word.result.0.now c.first_word.result.1.now c.in-Some.ensures
    c.first_word.ensures.whole c.first_word.ensures.free c.first_word.ensures.ends
    c.in_default-read_number.ensures

pub returns-in_default-leaf_place : goal.returns-in_default-leaf_place
returns-in_default-leaf_place c =
    no_leaf c.args.queries.now c.args.query c.args.text.now c.in-Some.behind.now
    c.first_word.result.0.now c.first_word.result.1.now c.in-Some.ensures
    c.first_word.ensures.whole c.first_word.ensures.free c.first_word.ensures.ends
    c.in-Some-read_number.number (omega arith) c.in-Some-read_number.ensures
    c.in_default-leaf_place.ensures
