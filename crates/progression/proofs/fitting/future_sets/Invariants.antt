use Rattle.std.proofs.Common.{◌≡◌}
use Rattle.tcq_syntax.specs.Formula.{number_at}
use Rattle.progression.specs.Kept.{AreFutureSets}
use Rattle.progression.proofs.fitting.future_sets.Given as goal

abbrev pub invariant-loop-place : goal.invariant-loop-place
invariant-loop-place l = record {
  number : l.number ≡ number_at l.nodes l.place;
  sets : AreFutureSets l.nodes l.place l.sets;
}
