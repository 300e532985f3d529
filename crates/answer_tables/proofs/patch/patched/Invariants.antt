use Rattle.answer_tables.specs.Runs.{end_from}
use Rattle.answer_tables.specs.Patching.{IsPatched}
use Rattle.answer_tables.proofs.Runs.{Rest}
use Rattle.answer_tables.proofs.patch.patched.Given as goal

abbrev pub invariant-loop-place : goal.invariant-loop-place
invariant-loop-place l = record {
  rest : Rest l.ranks l.place l.start (end_from 0 l.ranks);
  patched : IsPatched l.bytes l.ranks l.joints l.usual l.places l.start l.new.items;
}
