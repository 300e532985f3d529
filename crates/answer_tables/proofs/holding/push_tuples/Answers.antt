use Rattle.std.proofs.Common.{◌≡◌, ◌+◌, ℕ, subst, arith}
use Rattle.answer_tables.specs.Holding.{Listed}
use Rattle.answer_tables.proofs.Listing.{Listed-none, Listed-more}
use Rattle.answer_tables.proofs.holding.push_tuples.Goals as goal

pub loop-rank-init : goal.loop-rank-init
loop-rank-init c = Listed-none c.args.slots c.args.bound c.args.start c.args.rows.now
    c.requires.listed

pub loop-rank-preserved : goal.loop-rank-preserved
loop-rank-preserved c =
    Listed-more c.args.slots c.args.bound c.args.start c.loop-rank.rank (c.loop-rank.rank + 1)
    c.args.rows.now
    c.loop-rank.rows c.push_tuple.new.rows c.loop-rank.auto.rank (omega arith)
    c.loop-rank.invariant c.in_ok-push_tuple.ensures

pub returns : goal.returns
returns c =
    let past = c.loop-rank-test.false in
    let done : c.loop-rank.rank ≡ c.args.end =
    omega (arith, past, c.loop-rank.auto.rank-end, c.requires.order) in
    subst (λ (k : ℕ). Listed c.args.slots c.args.bound c.args.rows.now c.args.start k
    c.loop-rank.rows) done
    c.loop-rank.invariant
