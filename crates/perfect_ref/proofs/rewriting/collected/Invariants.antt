use Rattle.std.proofs.Common.{◌≡◌, ◌++◌}
use Rattle.perfect_ref.proofs.rewriting.collected.Given as goal

abbrev pub invariant-loop-cq : goal.invariant-loop-cq
invariant-loop-cq l = l.members.items ++ l.cq-iterator ≡ l.fn.set.keys
