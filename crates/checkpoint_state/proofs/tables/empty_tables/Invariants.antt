use Rattle.checkpoint_state.specs.Resuming.{AreTablesBelow}
use Rattle.checkpoint_state.proofs.tables.empty_tables.Given as goal

abbrev pub invariant-loop-place : goal.invariant-loop-place
invariant-loop-place l = AreTablesBelow l.query l.slots l.place l.tables.items
