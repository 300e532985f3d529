-- The facts so far are the first atoms, frozen.
use Rattle.std.proofs.Common.{◌≡◌, take, map}
use Rattle.models.specs.Containment.{frozen_atom}
use Rattle.contain_test.proofs.frozen.frozen_body.Given as goal

abbrev pub invariant-loop-atom : goal.invariant-loop-atom
invariant-loop-atom l = l.facts.items ≡ map (frozen_atom l.count) (take l.atom-index l.body)
