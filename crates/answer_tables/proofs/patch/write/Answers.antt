use Rattle.std.proofs.Common.{◌≡◌, ℕ, subst, arith}
use Rattle.answer_tables.specs.Patching.{IsWritten}
use Rattle.answer_tables.proofs.Patches.{IsWritten-start, IsWritten-more}
use Rattle.answer_tables.proofs.patch.write.Goals as goal

pub loop-rank-init : goal.loop-rank-init
loop-rank-init c = record {
  written =
      IsWritten-start c.args.bytes.now.items c.args.start c.args.byte;
  from = omega arith;
  within =
      c.requires.order;
}

pub loop-rank-preserved : goal.loop-rank-preserved
loop-rank-preserved c =
    let from = c.loop-rank.invariant.from in
    record {
      written = IsWritten-more c.args.bytes.now.items c.loop-rank.bytes.items c.args.start
          c.loop-rank.rank c.args.byte c.loop-rank.invariant.written from
          (omega (arith, c.loop-rank-test.true, c.requires.within));
      from = omega (arith, from);
      within = omega (arith, c.loop-rank-test.true);
    }

pub returns : goal.returns
returns c =
    let done : c.loop-rank.rank ≡ c.args.end =
    omega (arith, c.loop-rank-test.false, c.loop-rank.invariant.within) in
    subst (λ (e : ℕ). IsWritten c.args.bytes.now.items c.args.start e c.args.byte
    c.loop-rank.bytes.items) done c.loop-rank.invariant.written
