use Rattle.consistency.proofs.MarkBits.{raised_marks, raised_keeps}
use Rattle.consistency.proofs.marks.mark.Goals as goal

pub returns-then-place-words-clause-marked : goal.returns-then-place-words-clause-marked
returns-then-place-words-clause-marked c =
    λ _. raised_marks c.args.width c.args.words.now c.args.row c.args.element c.number.result
    c.number.ensures c.if-place-words.true

pub returns-then-place-words-clause-kept : goal.returns-then-place-words-clause-kept
returns-then-place-words-clause-kept c = raised_keeps c.args.words.now _ _ c.if-place-words.true
