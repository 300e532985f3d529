use Rattle.std.proofs.Common.{ℕ, ◌<◌, ◌≤◌}
use Rattle.query_unify.specs.Table.{count_in_atoms}
use Rattle.query_unify.proofs.steps.unused.Given as goal

abbrev pub invariant-loop-variable : goal.invariant-loop-variable
invariant-loop-variable l = (k : ℕ) → k < l.variable → 1 ≤ count_in_atoms k l.cq.body
