use Rattle.std.proofs.Common.{arith}
use Rattle.run_proofs.proofs.Cutting.{cut_at}
use Rattle.run_proofs.proofs.listing.word_at.Goals as goal

pub returns : goal.returns
returns c =
    let at = cut_at c.args.text.now c.args.from c.first_word.result.0.now
    c.first_word.result.1.now (omega arith) c.if-text-from-ne32.false
    c.first_word.ensures.whole c.first_word.ensures.free c.first_word.ensures.ends in
    (at.cut, at.later, at.within)
