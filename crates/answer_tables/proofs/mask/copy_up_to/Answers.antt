use Rattle.std.proofs.Common.{◌≡◌, ℕ, ◌∙◌, sym, subst, arith}
use Rattle.answer_tables.specs.Masking.{Copied}
use Rattle.answer_tables.proofs.Masks.{Copied-start, Copied-more}
use Rattle.answer_tables.proofs.mask.copy_up_to.Goals as goal

pub loop-rank-init : goal.loop-rank-init
loop-rank-init c = record {
  copied = Copied-start c.args.ranking.now c.args.runs.now.items c.args.start c.requires.rise
      c.requires.start;
  above = omega arith;
  within = c.requires.ahead;
}

pub extend-requires-clause-rise : goal.extend-requires-clause-rise
extend-requires-clause-rise c = c.loop-rank.invariant.copied.rise

pub extend-requires-clause-more : goal.extend-requires-clause-more
extend-requires-clause-more c =
    omega (
      arith,
      c.loop-rank.invariant.copied.ends,
      c.min-rank.ensures,
      c.run_over-run.ensures.ahead,
      c.loop-rank-test.true,
    )

pub loop-rank-preserved : goal.loop-rank-preserved
loop-rank-preserved c =
    let above = c.loop-rank.invariant.above in
    let ahead = c.run_over-run.ensures.ahead in
    record {
      copied = Copied-more c.args.ranking.now c.args.runs.now.items c.loop-rank.runs.items
          c.extend.new.runs.items c.loop-rank.rank c.min-rank.result c.run_over-run.result.link
          c.loop-rank.invariant.copied (omega (arith, above, c.requires.start))
          c.in_ok-extend.ensures.ok
          (λ n from below. c.run_over-run.ensures.same n from
          (omega (arith, below, c.min-rank.ensures)) ∙ sym c.run_over-run.ensures.link);
      above = omega (arith, above, ahead, c.min-rank.ensures, c.loop-rank-test.true);
      within = omega (arith, c.min-rank.ensures);
    }

pub returns : goal.returns
returns c =
    let done : c.loop-rank.rank ≡ c.args.end =
    omega (arith, c.loop-rank-test.false, c.loop-rank.invariant.within) in
    subst (λ (e : ℕ). Copied c.args.ranking.now c.args.runs.now.items e c.loop-rank.runs.items) done
    c.loop-rank.invariant.copied
