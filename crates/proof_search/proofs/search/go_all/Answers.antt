use Rattle.std.proofs.Common.{arith}
use Rattle.proof_search.proofs.search.go_all.Goals as goal

pub loop-at-init : goal.loop-at-init
loop-at-init c = record {
  gives = c.requires.gives;
  steps = c.requires.run;
  kept = c.requires.kept;
  few = omega (arith, c.requires.none);
}

pub loop-at-preserved : goal.loop-at-preserved
loop-at-preserved c = record {
  gives = c.in_ok-at.ensures.gives;
  steps = c.in_ok-at.ensures.steps _ c.loop-at.invariant.steps;
  kept = c.in_ok-at.ensures.kept;
  few = omega (arith, c.in_ok-at.ensures.few, c.in_ok-at.ensures.earlier, c.loop-at.invariant.few);
}
