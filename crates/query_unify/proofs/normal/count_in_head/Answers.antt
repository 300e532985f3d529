use Rattle.std.proofs.Common.{sym, ◌∙◌, ap, take}
use Rattle.query_unify.specs.Normal.{distinct, variables_of}
use Rattle.query_unify.proofs.FirstPlaces.{head_more}
use Rattle.query_unify.proofs.normal.count_in_head.Goals as goal

pub loop-term-preserved : goal.loop-term-preserved
loop-term-preserved c =
    ap distinct (sym (head_more c.args.head.now c.loop-term.term-index _ c.loop-term-test.true))
    ∙ c.in_ok-count.ensures (variables_of (take c.loop-term.term-index c.args.head.now))
    c.loop-term.invariant
