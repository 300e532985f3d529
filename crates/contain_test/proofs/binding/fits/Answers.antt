-- Answers to the goals of `fits`: a place at which the head does not become the row, or none.
use Rattle.std.proofs.Common.{refl, arith}
use Rattle.query_unify.specs.Substitution.{applied}
use Rattle.contain_test.specs.Binding.{bound_to}
use Rattle.contain_test.proofs.Rows.{BecomeBefore-all, at_place}
use Rattle.contain_test.proofs.binding.fits.Goals as goal

pub returns-then-not-is_bound_to : goal.returns-then-not-is_bound_to
returns-then-not-is_bound_to c = (
  λ h. absurd (cc),
  λ becomes.
      let found = c.is_bound_to.ensures.1
      (at_place (applied (bound_to c.args.head.now c.args.row.now)) c.args.head.now c.args.row.now
      c.loop-place.place
      _ _ becomes c.loop-place-test.true) in
      let lost = c.if-not-is_bound_to.true in
      cc,
)

pub returns : goal.returns
returns c = (
  λ h.
      BecomeBefore-all (applied (bound_to c.args.head.now c.args.row.now)) c.args.head.now
      c.args.row.now c.loop-place.place
      c.requires (omega arith) c.loop-place.invariant,
  λ h. refl,
)
