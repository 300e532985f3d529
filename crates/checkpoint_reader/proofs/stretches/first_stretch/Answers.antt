use Rattle.std.proofs.Common.{◌++◌, ◌∷◌, decimal}
use Rattle.checkpoint_reader.proofs.Items.{word_parts, pair_no_space}
use Rattle.checkpoint_reader.proofs.stretches.first_stretch.Goals as goal

pub returns-in_default-stretch_of : goal.returns-in_default-stretch_of
returns-in_default-stretch_of c s more small fits stops is =
    let parts = word_parts c.args.text.now c.in-Some.rest.now c.word_of.result.0.now
    c.word_of.result.1.now c.in-Some.ensures c.word_of.ensures.cut c.word_of.ensures.word
    c.word_of.ensures.ends (decimal s.count ++ 58 ∷ decimal s.list) more
    (pair_no_space s.count s.list small fits) stops is in
    c.in_default-stretch_of.ensures s small fits parts.0
