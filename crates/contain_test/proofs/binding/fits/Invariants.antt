-- The first places of the head become those of the row.
use Rattle.query_unify.specs.Substitution.{applied}
use Rattle.contain_test.specs.Binding.{bound_to}
use Rattle.contain_test.proofs.Rows.{BecomeBefore}
use Rattle.contain_test.proofs.binding.fits.Given as goal

abbrev pub invariant-loop-place : goal.invariant-loop-place
invariant-loop-place l = BecomeBefore (applied (bound_to l.head l.row)) l.head l.row l.place
