use Rattle.std.proofs.Common.{◌≡◌}
use Rattle.tcq_syntax.specs.Formula.{number_at}
use Rattle.checkpoint_reader.specs.OwnSets.{AreOwnSets}
use Rattle.checkpoint_reader.proofs.own_sets.own_sets.Given as goal

abbrev pub invariant-loop-place : goal.invariant-loop-place
invariant-loop-place l = record {
  number : l.number ≡ number_at l.nodes l.place;
  sets : AreOwnSets l.nodes l.place l.sets;
}
