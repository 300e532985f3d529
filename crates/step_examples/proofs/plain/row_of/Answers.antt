use Rattle.std.proofs.Common.{◌<◌, ◌≢◌, ◌∙◌, arith, below_more, get_or-set_other, get_or-set_same}
use Rattle.std.proofs.Common.{length}
use Rattle.std.proofs.lemmas.List.{length-set}
use Rattle.step_examples.proofs.plain.row_of.Goals as goal

pub loop-i-preserved : goal.loop-i-preserved
loop-i-preserved c = record {
  long = length-set c.loop-i.row c.loop-i.i c.holds_at.result ∙ c.loop-i.invariant.long;
  tells = λ child number rows leaf. below_more _ _
      (λ k below. let other : k ≢ c.loop-i.i = omega arith in
      rw get_or-set_other (c.loop-i.invariant.tells child number rows leaf k below))
      (let within : c.loop-i.i < length c.loop-i.row = omega (arith, c.loop-i.invariant.long) in
      rw get_or-set_same (c.holds_at.ensures child number rows leaf));
}
