use Rattle.std.proofs.Common.{take}
use Rattle.std.specs.List.{AllByRecursion}
use Rattle.ucq_join.specs.Bindings.{IsAssigned}
use Rattle.ucq_join.proofs.join.is_assigned.Given as goal

-- the terms so far are bound
abbrev pub invariant-loop-term : goal.invariant-loop-term
invariant-loop-term l = AllByRecursion (IsAssigned l.bindings) (take l.term-index l.head)
