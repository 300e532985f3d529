-- The row so far is the first terms, frozen.
use Rattle.std.proofs.Common.{◌≡◌, take, map}
use Rattle.models.specs.Containment.{frozen_term}
use Rattle.contain_test.proofs.frozen.frozen_head.Given as goal

abbrev pub invariant-loop-term : goal.invariant-loop-term
invariant-loop-term l = l.row.items ≡ map (frozen_term l.count) (take l.term-index l.head)
